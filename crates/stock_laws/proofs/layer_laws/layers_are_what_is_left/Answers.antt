use Rattle.stock_laws.proofs.LayersLeft.{replay-units, replay-value, replay-nothing}
use Rattle.stock_laws.proofs.layer_laws.layers_are_what_is_left.Goals as goal

pub returns-clause-units : goal.returns-clause-units
returns-clause-units c = replay-units

pub returns-clause-value : goal.returns-clause-value
returns-clause-value c = replay-value

pub returns-clause-nothing : goal.returns-clause-nothing
returns-clause-nothing c = replay-nothing
