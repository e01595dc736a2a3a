-- The end of the key, or a place of it.
use Rattle.std.proofs.Common.{Option, sym, subst}
use Rattle.stock_nums.specs.declared.place.Place.{Place}
use Rattle.key_order.specs.KeyBounds.{is_up_to_key, is_before_place, is_before_end_of}
use Rattle.key_order.proofs.KeyOrdering.{is_up_to_key-back, is_before_place-back, IsPartitionedBy-back}
use Rattle.key_order.proofs.KeyPoints.{IsPoint}
use Rattle.key_order.proofs.order.index_of_end.Goals as goal

pub returns-in-Some-clause-point : goal.returns-in-Some-clause-point
returns-in-Some-clause-point c =
    let cs = c.args.changes.now.items in
    let key = c.args.key in
    let place = c.in-Some.place in
    subst (λ (end : Option Place). IsPoint (is_before_end_of key end) cs c.partition_point.result) (sym c.in-Some.is)
    (c.partition_point.ensures.point
    (IsPartitionedBy-back (is_before_place key place) (is_before_place-back key place) cs c.requires))

pub returns-in-None-clause-point : goal.returns-in-None-clause-point
returns-in-None-clause-point c =
    let cs = c.args.changes.now.items in
    let key = c.args.key in
    subst (λ (end : Option Place). IsPoint (is_before_end_of key end) cs c.partition_point-in-None.result) (sym c.in-None.is)
    (c.partition_point-in-None.ensures.point (IsPartitionedBy-back (is_up_to_key key) (is_up_to_key-back key) cs c.requires))
