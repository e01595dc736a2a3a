-- The change before where the bound falls, if there is one and it is of the key.
use Rattle.std.proofs.Common.{ap, ◌∙◌}
use Rattle.block_list.proofs.Sides.{point-from_sides}
use Rattle.key_order.specs.Changes.{previous_change}
use Rattle.key_order.specs.KeyOrderState.{KeyOrderState}
use Rattle.key_order.specs.KeyBounds.{is_before_place, place_of_key}
use Rattle.key_order.proofs.KeyOrdering.{is_before_place-back, IsPartitionedBy-back}
use Rattle.key_order.proofs.KeyRuns.{previous_change-before}
use Rattle.key_order.proofs.order.KeyOrder.previous.Goals as goal

pub returns : goal.returns
returns c =
    let cs = c.self.inside.changes.items in
    let key = c.args.key in
    let place = c.args.place.now in
    let found = c.last_before.ensures in
    let parted = IsPartitionedBy-back (is_before_place key place) (is_before_place-back key place) cs c.self.invariant.0 in
    c.place_of.ensures ∙ ap (place_of_key key) found.2
    ∙ previous_change-before cs key place found.0 found.1.within c.self.invariant.0
    (point-from_sides (is_before_place key place) cs found.0 parted found.1)
    ∙ ap (λ (s : KeyOrderState). previous_change s.changes key place) c.self.view_is
