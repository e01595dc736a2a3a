use Rattle.stock_nums.proofs.FirstIn.{first_cost-all, first_cost-le, first_cost-mono, first_cost-append, layers_left-append, layers_left-units, layers_left-value, next_cost-split}
use Rattle.stock_nums.proofs.first_in.layers_are_worth_what_is_left.Goals as goal

pub returns-clause-all : goal.returns-clause-all
returns-clause-all g c = first_cost-all

pub returns-clause-bound : goal.returns-clause-bound
returns-clause-bound g c = first_cost-le

pub returns-clause-more : goal.returns-clause-more
returns-clause-more g c = first_cost-mono

pub returns-clause-later : goal.returns-clause-later
returns-clause-later g c = first_cost-append

pub returns-clause-later_layers : goal.returns-clause-later_layers
returns-clause-later_layers g c = layers_left-append

pub returns-clause-units_left : goal.returns-clause-units_left
returns-clause-units_left g c = layers_left-units

pub returns-clause-value_left : goal.returns-clause-value_left
returns-clause-value_left g c = layers_left-value

pub returns-clause-split : goal.returns-clause-split
returns-clause-split g c = next_cost-split
