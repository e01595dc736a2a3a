-- Posting order leaves one index for the place.
use Rattle.std.proofs.Common.{◌≡◌, Some, None, slice_get, sym, ap, ◌∙◌}
use Rattle.std.specs.Option.{option_copied}
use Rattle.block_list.proofs.Sides.{point-from_sides}
use Rattle.repost_frontier.specs.Slots.{slot_comes_before}
use Rattle.repost_frontier.proofs.SlotPlaces.{ordered, comes_before-back, IsPartitionedBy-HoldsBack, found-there, found-other, found-past}
use Rattle.repost_frontier.proofs.frontier.standing_at.Goals as goal

pub returns-then-is_slot_at : goal.returns-then-is_slot_at
returns-then-is_slot_at c =
    let slots = c.args.list.now.items in
    let s = c.in_ok-slot.slot.now in
    let found = c.first_from.ensures in
    let read : slice_get slots found.0 ≡ Some s = sym found.2 ∙ ap option_copied c.in_ok-slot.was in
    sym (found-there c.args.place.now slots found.0 s c.requires read (sym c.is_slot_at.ensures ∙ c.if-is_slot_at.true))

pub returns-else-is_slot_at : goal.returns-else-is_slot_at
returns-else-is_slot_at c =
    let place = c.args.place.now in
    let slots = c.args.list.now.items in
    let s = c.in_ok-slot.slot.now in
    let found = c.first_from.ensures in
    let read : slice_get slots found.0 ≡ Some s = sym found.2 ∙ ap option_copied c.in_ok-slot.was in
    let parted = IsPartitionedBy-HoldsBack (slot_comes_before place) (comes_before-back place) slots (ordered slots c.requires) in
    sym (found-other place slots found.0 s c.requires (point-from_sides (slot_comes_before place) slots found.0 parted found.1) read
    (sym c.is_slot_at.ensures ∙ c.if-is_slot_at.false))

pub returns-in_err-slot : goal.returns-in_err-slot
returns-in_err-slot c =
    let place = c.args.place.now in
    let slots = c.args.list.now.items in
    let found = c.first_from.ensures in
    let past : slice_get slots found.0 ≡ None = sym found.2 ∙ ap option_copied c.in_err-slot.was in
    let parted = IsPartitionedBy-HoldsBack (slot_comes_before place) (comes_before-back place) slots (ordered slots c.requires) in
    ap option_copied c.from_residual.ensures
    ∙ sym (found-past place slots found.0 c.requires (point-from_sides (slot_comes_before place) slots found.0 parted found.1) past)
