-- What the changes of the key before the place count.
use Rattle.std.proofs.Common.{ap, ◌∙◌, arith}
use Rattle.key_order.specs.Changes.{held_before}
use Rattle.key_order.specs.KeyOrderState.{KeyOrderState}
use Rattle.key_order.specs.KeyBounds.{is_before_key, is_before_place}
use Rattle.key_order.proofs.KeyOrdering.{is_before_key-back, is_before_place-back, IsPartitionedBy-back}
use Rattle.key_order.proofs.KeyRuns.{held_before-points, small-kept}
use Rattle.key_order.proofs.order.KeyOrder.held_before.Goals as goal

pub returns-clause-value : goal.returns-clause-value
returns-clause-value c =
    let cs = c.self.inside.changes.items in
    let key = c.args.key in
    let place = c.args.place.now in
    let start = c.partition_point-start in
    let end = c.partition_point-end in
    let first = start.ensures.point (IsPartitionedBy-back (is_before_key key) (is_before_key-back key) cs c.self.invariant.0) in
    let last = end.ensures.point
    (IsPartitionedBy-back (is_before_place key place) (is_before_place-back key place) cs c.self.invariant.0) in
    small-kept c.sum_between.result (omega (arith, c.sum_between.ensures.bound))
    ∙ c.sum_between.ensures.sum ∙ held_before-points cs key place start.result end.result first last
    ∙ ap (λ (s : KeyOrderState). held_before s.changes key place) c.self.view_is
