-- The changes of earlier keys come before all those of the key.
use Rattle.std.proofs.Common.{ap, arith}
use Rattle.key_order.specs.Changes.{rank_of}
use Rattle.key_order.specs.KeyOrderState.{KeyOrderState}
use Rattle.key_order.specs.KeyBounds.{is_before_key, is_before_place}
use Rattle.key_order.proofs.KeyOrdering.{is_before_key-back, is_before_place-back, IsPartitionedBy-back}
use Rattle.key_order.proofs.KeyRuns.{rank_of-points}
use Rattle.key_order.proofs.order.KeyOrder.rank.Goals as goal

pub overflow_sub-result : goal.overflow_sub-result
overflow_sub-result c =
    let cs = c.self.inside.changes.items in
    let key = c.args.key in
    let place = c.args.place.now in
    let start = c.partition_point-start in
    let end = c.partition_point-end in
    let first = start.ensures.point (IsPartitionedBy-back (is_before_key key) (is_before_key-back key) cs c.self.invariant.0) in
    let last = end.ensures.point
    (IsPartitionedBy-back (is_before_place key place) (is_before_place-back key place) cs c.self.invariant.0) in
    let both =
    rank_of-points cs key place start.result end.result start.ensures.sides.within end.ensures.sides.within first last in
    omega (arith, both)

pub returns : goal.returns
returns c =
    let cs = c.self.inside.changes.items in
    let key = c.args.key in
    let place = c.args.place.now in
    let start = c.partition_point-start in
    let end = c.partition_point-end in
    let first = start.ensures.point (IsPartitionedBy-back (is_before_key key) (is_before_key-back key) cs c.self.invariant.0) in
    let last = end.ensures.point
    (IsPartitionedBy-back (is_before_place key place) (is_before_place-back key place) cs c.self.invariant.0) in
    let both =
    rank_of-points cs key place start.result end.result start.ensures.sides.within end.ensures.sides.within first last in
    let told = ap (λ (s : KeyOrderState). rank_of s.changes key place) c.self.view_is in
    omega (arith, both, told)
