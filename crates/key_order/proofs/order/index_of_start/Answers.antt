-- The start of the key, or a place of it.
use Rattle.std.proofs.Common.{Option, sym, subst}
use Rattle.stock_nums.specs.declared.place.Place.{Place}
use Rattle.key_order.specs.KeyBounds.{is_up_to_place, is_up_to_start_of}
use Rattle.key_order.proofs.KeyOrdering.{is_up_to_place-back, IsPartitionedBy-back}
use Rattle.key_order.proofs.KeyPoints.{IsPoint}
use Rattle.key_order.proofs.order.index_of_start.Goals as goal

pub returns-in-Some-clause-point : goal.returns-in-Some-clause-point
returns-in-Some-clause-point c =
    let cs = c.args.changes.now.items in
    let key = c.args.key in
    let place = c.in-Some.place in
    subst (λ (from : Option Place). IsPoint (is_up_to_start_of key from) cs c.partition_point.result) (sym c.in-Some.is)
    (c.partition_point.ensures.point
    (IsPartitionedBy-back (is_up_to_place key place) (is_up_to_place-back key place) cs c.requires.order))

pub returns-in-None-clause-point : goal.returns-in-None-clause-point
returns-in-None-clause-point c =
    let cs = c.args.changes.now.items in
    let key = c.args.key in
    subst (λ (from : Option Place). IsPoint (is_up_to_start_of key from) cs c.args.first) (sym c.in-None.is) c.requires.first_point
