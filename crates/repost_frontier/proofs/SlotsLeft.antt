-- Movements in posting order without the one at a place.
use Rattle.std.proofs.Common.{◌≡◌, ◌≢◌, ℕ, true, false, cond, not, List, [], ◌∷◌, map, filter, remove, slice_get, Some, None, refl, sym, ap, ◌∙◌}
use Rattle.std.proofs.lemmas.List.Kept.{AllPairs-filter}
use Rattle.stock_nums.specs.declared.entry.Entry.{Entry}
use Rattle.stock_nums.specs.declared.place.Place.{Place}
use Rattle.stock_model.specs.InOrder.{IsInPostingOrder}
use Rattle.stock_model.proofs.Pairwise.{AllPairs-from_Pairwise, Pairwise-from_AllPairs}
use Rattle.key_order.specs.SamePlace.{is_same_place}
use Rattle.repost_frontier.specs.Slots.{slot_entry, is_slot_at, slot_at, slots_without}
use Rattle.repost_frontier.specs.declared.slot.Slot.{Slot}
use Rattle.repost_frontier.proofs.OnePasses.{Fails-from_none, filter-none, filter-StandsAt, find-gone, find-left}
use Rattle.repost_frontier.proofs.SlotPlaces.{IsSlotBefore, ordered, from-ordered, is_slot_at-true, is_slot_at-other, stands}

-- where a movement stands at the place, it goes
pub left-there : (place : Place) (slots : List Slot) (n : ℕ) (s : Slot) → IsInPostingOrder (map slot_entry slots)
    → slice_get slots n ≡ Some s → is_slot_at place s ≡ true → slots_without slots place ≡ remove slots n
left-there place slots n s order read at =
    filter-StandsAt (is_slot_at place) slots n (stands place slots n s (ordered slots order) read at)

-- and where none does, none goes
pub left-other : (slots : List Slot) (place : Place) → slot_at slots place ≡ None → slots_without slots place ≡ slots
left-other slots place none = filter-none (is_slot_at place) slots (Fails-from_none (is_slot_at place) slots none)

-- those that are left are in order
pub left-in_order : (slots : List Slot) (place : Place) → IsInPostingOrder (map slot_entry slots)
    → IsInPostingOrder (map slot_entry (slots_without slots place))
left-in_order slots place order =
    let left = slots_without slots place in
    from-ordered left (Pairwise-from_AllPairs IsSlotBefore left
    (AllPairs-filter IsSlotBefore (λ s. not (is_slot_at place s)) slots (AllPairs-from_Pairwise IsSlotBefore slots (ordered slots order))))

-- none is left at the place
pub left-gone : (slots : List Slot) (place : Place) → slot_at (slots_without slots place) place ≡ None
left-gone slots place = find-gone (is_slot_at place) slots

-- and at others there is what there was
pub left-others : (slots : List Slot) (place p : Place) → p ≢ place → slot_at (slots_without slots place) p ≡ slot_at slots p
left-others slots place p other =
    find-left (is_slot_at p) (is_slot_at place)
    (λ s at. is_slot_at-other place s (λ same. other (sym (is_slot_at-true p s at) ∙ same))) slots

-- the movements that are left
pub left-entries : (slots : List Slot) (place : Place)
    → map slot_entry (slots_without slots place) ≡ filter (λ e. not (is_same_place e.place place)) (map slot_entry slots)
left-entries [] place = refl
left-entries (s ∷ slots) place =
    let left = slots_without slots place in
    let entries = filter (λ (e : Entry). not (is_same_place e.place place)) (map slot_entry slots) in
    elim (is_slot_at place s) as (λ b. map slot_entry (cond (not b) (s ∷ left) left) ≡ cond (not b) (slot_entry s ∷ entries) entries) [
      | true ↦ left-entries slots place
      | false ↦ ap (λ es. slot_entry s ∷ es) (left-entries slots place)
    ]
