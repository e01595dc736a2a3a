use Rattle.stock_nums.proofs.PlaceOrder.{is_before-irreflexive, is_before-asymmetric, is_before-transitive, is_before-total}
use Rattle.stock_nums.proofs.place.places_are_in_total_order.Goals as goal

pub returns-clause-irreflexive : goal.returns-clause-irreflexive
returns-clause-irreflexive c = is_before-irreflexive

pub returns-clause-asymmetric : goal.returns-clause-asymmetric
returns-clause-asymmetric c = is_before-asymmetric

pub returns-clause-transitive : goal.returns-clause-transitive
returns-clause-transitive c = is_before-transitive

pub returns-clause-total : goal.returns-clause-total
returns-clause-total c = is_before-total
