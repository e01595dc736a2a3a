-- Posting order leaves one index for the place.
use Rattle.std.proofs.Common.{◌≡◌, Some, None, slice_get, sym, ap, ◌∙◌}
use Rattle.std.specs.Option.{option_copied}
use Rattle.repost_frontier.specs.Slots.{slot_comes_before, slot_at}
use Rattle.repost_frontier.proofs.SlotPlaces.{ordered, comes_before-back, IsPartitionedBy-HoldsBack, read-within, found-there, found-other, found-past}
use Rattle.repost_frontier.proofs.SlotsLeft.{left-there, left-other}
use Rattle.repost_frontier.proofs.frontier.index_of.Goals as goal

pub returns-then-is_slot_at-clause-found : goal.returns-then-is_slot_at-clause-found
returns-then-is_slot_at-clause-found c =
    let slots = c.args.list.now.items in
    let n = c.partition_point-index.result in
    let s = c.in-Some.slot.now in
    let read : slice_get slots n ≡ Some s = sym c.get.ensures ∙ ap option_copied c.in-Some.is in
    let there = found-there c.args.place.now slots n s c.requires read (sym c.is_slot_at.ensures ∙ c.if-is_slot_at.true) in
    ((read-within slots n s read).0, there ∙ sym read)

pub returns-then-is_slot_at-clause-rest : goal.returns-then-is_slot_at-clause-rest
returns-then-is_slot_at-clause-rest c =
    let slots = c.args.list.now.items in
    let n = c.partition_point-index.result in
    let s = c.in-Some.slot.now in
    let read : slice_get slots n ≡ Some s = sym c.get.ensures ∙ ap option_copied c.in-Some.is in
    left-there c.args.place.now slots n s c.requires read (sym c.is_slot_at.ensures ∙ c.if-is_slot_at.true)

pub returns-else-is_slot_at-clause-found : goal.returns-else-is_slot_at-clause-found
returns-else-is_slot_at-clause-found c =
    let slots = c.args.list.now.items in
    let place = c.args.place.now in
    let n = c.partition_point-index.result in
    let s = c.in-Some.slot.now in
    let read : slice_get slots n ≡ Some s = sym c.get.ensures ∙ ap option_copied c.in-Some.is in
    let parted = IsPartitionedBy-HoldsBack (slot_comes_before place) (comes_before-back place) slots (ordered slots c.requires) in
    found-other place slots n s c.requires (c.partition_point-index.ensures.point parted) read (sym c.is_slot_at.ensures ∙ c.if-is_slot_at.false)

pub returns-else-is_slot_at-clause-rest : goal.returns-else-is_slot_at-clause-rest
returns-else-is_slot_at-clause-rest c = left-other c.args.list.now.items c.args.place.now (returns-else-is_slot_at-clause-found c)

pub returns-in-None-clause-found : goal.returns-in-None-clause-found
returns-in-None-clause-found c =
    let slots = c.args.list.now.items in
    let place = c.args.place.now in
    let n = c.partition_point-index.result in
    let past : slice_get slots n ≡ None = sym c.get.ensures ∙ ap option_copied c.in-None.is in
    let parted = IsPartitionedBy-HoldsBack (slot_comes_before place) (comes_before-back place) slots (ordered slots c.requires) in
    found-past place slots n c.requires (c.partition_point-index.ensures.point parted) past

pub returns-in-None-clause-rest : goal.returns-in-None-clause-rest
returns-in-None-clause-rest c = left-other c.args.list.now.items c.args.place.now (returns-in-None-clause-found c)
