-- Movements in posting order, each with what was last found of it.
use Rattle.std.specs.Prelude.{ℕ, ℤ, pos, ◌-ℤ◌, ◌++◌, Bool, true, false, ◌&&◌, not, List, [], ◌∷◌, map, filter, take, drop, Option, Some, None, if◌then◌else◌}
use Rattle.std.specs.List.{find}
use Rattle.stock_nums.specs.Places.{is_before}
use Rattle.stock_nums.specs.declared.entry.Entry.{Entry}
use Rattle.stock_nums.specs.declared.place.Place.{Place}
use Rattle.cost_links.specs.declared.values.Valued.{Valued}
use Rattle.key_order.specs.SamePlace.{is_same_place}
use Rattle.repost_frontier.specs.declared.slot.Slot.{Slot}

-- the movement itself
abbrev pub slot_entry : Slot → Entry
slot_entry s = s.entry

-- where it stands
abbrev pub slot_place : Slot → Place
slot_place s = s.entry.place

-- it stands at this place
abbrev pub is_slot_at : Place → Slot → Bool
is_slot_at place s = is_same_place (slot_place s) place

-- it comes before the place, and after it
abbrev pub slot_comes_before : Place → Slot → Bool
slot_comes_before place s = is_before (slot_place s) place

abbrev pub slot_comes_after : Place → Slot → Bool
slot_comes_after place s = is_before place (slot_place s)

-- its value may have to change
abbrev pub is_suspect : Slot → Bool
is_suspect s = s.is_suspect

-- it was valued since the last publication
abbrev pub is_revalued : Slot → Bool
is_revalued s = s.is_revalued

-- the movement at this place
abbrev pub slot_at : List Slot → Place → Option Slot
slot_at slots place = find (is_slot_at place) slots

-- the movements with one more, put before the first that comes after it
abbrev pub put_slot : List Slot → Slot → List Slot
put_slot [] s = s ∷ []
put_slot (t ∷ ts) s = if is_before (slot_place s) (slot_place t) then s ∷ t ∷ ts else t ∷ put_slot ts s

-- the movements but the one at this place
abbrev pub slots_without : List Slot → Place → List Slot
slots_without slots place = filter (λ s. not (is_slot_at place s)) slots

-- a movement that was never valued
abbrev pub new_slot : Entry → Slot
new_slot e = record { entry = e; found = None; is_suspect = true; is_revalued = false }

-- a movement as one whose value may have to change
abbrev pub marked : Slot → Slot
marked s = record s { is_suspect = true }

-- what a mark makes of a movement: so where it stands at this place and is not so yet, and else it stays
abbrev pub mark_change : Place → Slot → Option Slot
mark_change place s = if is_slot_at place s && not s.is_suspect then Some (marked s) else None

-- the movements with the one at this place so
abbrev pub mark_at : Place → Slot → Slot
mark_at place s = if is_slot_at place s then marked s else s

abbrev pub marks : List Slot → Place → List Slot
marks slots place = map (mark_at place) slots

-- a movement as it was just valued
abbrev pub with_found : Valued → Slot → Slot
with_found found s = record { entry = s.entry; found = Some found; is_suspect = false; is_revalued = true }

-- what a value makes of a movement: so where it stands at this place, and else it stays
abbrev pub value_change : Place → Valued → Slot → Option Slot
value_change place found s = if is_slot_at place s then Some (with_found found s) else None

-- the movements with the one at this place so
abbrev pub valued_at : Place → Valued → Slot → Slot
valued_at place found s = if is_slot_at place s then with_found found s else s

abbrev pub with_value : List Slot → Place → Valued → List Slot
with_value slots place found = map (valued_at place found) slots

-- a movement as one that was not valued since a publication
abbrev pub as_published : Slot → Slot
as_published s = record s { is_revalued = false }

-- the first n movements so
abbrev pub published_until : List Slot → ℕ → List Slot
published_until slots n = map as_published (take n slots) ++ drop n slots

-- what a movement counts, so that a sum from nothing falls below it at the first suspect
abbrev pub suspect_weight : Slot → ℤ
suspect_weight s = if s.is_suspect then pos 0 -ℤ pos 1 else pos 0
