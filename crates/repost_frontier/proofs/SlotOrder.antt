-- What changes movements in posting order, and leaves them so.
use Rattle.std.proofs.Common.{◌≡◌, ℕ, zero, suc, ◌<◌, ◌≤◌, Bool, true, false, cond, not, ◌&&◌, List, [], ◌∷◌, length, get_or, map, set, insert, slice_get, Option, Some, None, unwrap_or, inl, inr, refl, sym, ap, ◌∙◌, arith}
use Rattle.std.proofs.lemmas.Bool.{false≢true}
use Rattle.std.proofs.lemmas.Option.{slice_get_cases}
use Rattle.block_list.specs.Bounds.{HasSides}
use Rattle.block_list.specs.Changes.{changed_item, change_at}
use Rattle.block_list.proofs.Changed.{change_at-set, change_at-past}
use Rattle.block_list.proofs.Sides.{point-from_sides}
use Rattle.cost_links.specs.declared.values.Valued.{Valued}
use Rattle.stock_nums.specs.Places.{is_before}
use Rattle.stock_nums.specs.declared.place.Place.{Place}
use Rattle.stock_nums.proofs.PlaceOrder.{is_before-transitive}
use Rattle.stock_model.specs.InOrder.{IsInPostingOrder}
use Rattle.stock_model.specs.PostingOrder.{put}
use Rattle.stock_model.proofs.Pairwise.{Precedes, Pairwise, Each}
use Rattle.repost_frontier.specs.Slots.{slot_entry, slot_place, is_slot_at, slot_comes_before, slot_comes_after, slot_at, put_slot, marked, mark_change, mark_at, marks, with_found, value_change, valued_at, with_value, as_published}
use Rattle.repost_frontier.specs.declared.slot.Slot.{Slot}
use Rattle.repost_frontier.proofs.OnePasses.{Fails, passes_from_not_fails, fails_from_not_passes, Fails-from_none, map-none, map-StandsAt}
use Rattle.repost_frontier.proofs.SlotPlaces.{IsSlotBefore, ordered, from-ordered, is_before-other, HoldsBack, IsPartitionedBy-HoldsBack, comes_before-back, IsPointOf, stands, found-other, found-past}

-- what is not false is true, and back
not-true : (b : Bool) → not b ≡ true → b ≡ false
not-true true h = absurd (false≢true h)
not-true false h = refl

not-false : (b : Bool) → not b ≡ false → b ≡ true
not-false true h = refl
not-false false h = absurd (false≢true (sym h))

-- where none stands at the place, a change of the one there changes nothing
map-no_standing : (f : Slot → Slot) (slots : List Slot) (place : Place) → slot_at slots place ≡ None
    → map (λ t. cond (is_slot_at place t) (f t) t) slots ≡ slots
map-no_standing f slots place none = map-none (is_slot_at place) f slots (Fails-from_none (is_slot_at place) slots none)

set-same : (slots : List Slot) (n : ℕ) (s : Slot) → slice_get slots n ≡ Some s → set slots n s ≡ slots
set-same [] zero s read = cc
set-same [] (suc n) s read = cc
set-same (t ∷ slots) zero s read = let same : s ≡ t = cc in ap (λ (u : Slot). u ∷ slots) same
set-same (t ∷ slots) (suc n) s read = ap (λ ts. t ∷ ts) (set-same slots n s read)

-- and where the bound of the place falls before a movement, it changes at most that one
map-at_bound : (f : Slot → Slot) (slots : List Slot) (place : Place) (n : ℕ) (s : Slot) → IsInPostingOrder (map slot_entry slots)
    → IsPointOf place slots n → slice_get slots n ≡ Some s
    → set slots n (cond (is_slot_at place s) (f s) s) ≡ map (λ t. cond (is_slot_at place t) (f t) t) slots
map-at_bound f slots place n s order point read = by_cases (is_slot_at place s) refl
  where
    by_cases : (b : Bool) → is_slot_at place s ≡ b → set slots n (cond b (f s) s) ≡ map (λ t. cond (is_slot_at place t) (f t) t) slots
    by_cases true is =
        sym (map-StandsAt (is_slot_at place) f slots n s (stands place slots n s (ordered slots order) read is) read)
    by_cases false is =
        set-same slots n s read ∙ sym (map-no_standing f slots place (found-other place slots n s order point read is))

-- so a change of the first that does not come before the place is a change of the one that stands there
pub change-standing : (f : Slot → Slot) (change : Slot → Option Slot) (slots new : List Slot) (place : Place)
    → ((s : Slot) → changed_item change s ≡ cond (is_slot_at place s) (f s) s) → IsInPostingOrder (map slot_entry slots)
    → (at : ℕ) × HasSides (slot_comes_before place) slots at × (new ≡ change_at change slots at)
    → new ≡ map (λ t. cond (is_slot_at place t) (f t) t) slots
change-standing f change slots new place same order (at, sides, made) =
    let parted = IsPartitionedBy-HoldsBack (slot_comes_before place) (comes_before-back place) slots (ordered slots order) in
    let point = point-from_sides (slot_comes_before place) slots at parted sides in
    elim (slice_get_cases slots at).1 [
      | inl there ↦
          let s = there.0 in
          let read = there.2 in
          made ∙ change_at-set change slots at s read ∙ ap (set slots at) (same s) ∙ map-at_bound f slots place at s order point read
      | inr past ↦
          made ∙ change_at-past change slots at past.0 ∙ sym (map-no_standing f slots place (found-past place slots at order point past.1))
    ]

-- a mark of a suspect changes nothing
marked-same : (s : Slot) → s.is_suspect ≡ true → marked s ≡ s
marked-same s suspect =
    let of : Bool → Slot = λ b. record s { is_suspect = b } in
    ap of (sym suspect)

pub mark_change-is : (place : Place) (s : Slot) → changed_item (mark_change place) s ≡ mark_at place s
mark_change-is place s =
    elim (is_slot_at place s) as (λ b. unwrap_or (cond (b && not s.is_suspect) (Some (marked s)) None) s ≡ cond b (marked s) s) [
      | true ↦ by_cases s.is_suspect refl
      | false ↦ refl
    ]
  where
    by_cases : (b : Bool) → s.is_suspect ≡ b → unwrap_or (cond (not b) (Some (marked s)) None) s ≡ marked s
    by_cases true is = sym (marked-same s is)
    by_cases false is = refl

pub value_change-is : (place : Place) (found : Valued) (s : Slot) → changed_item (value_change place found) s ≡ valued_at place found s
value_change-is place found s =
    elim (is_slot_at place s) as (λ b. unwrap_or (cond b (Some (with_found found s)) None) s ≡ cond b (with_found found s) s) [
      | true ↦ refl
      | false ↦ refl
    ]

-- what keeps the movement of each keeps all
entries-same : (f : Slot → Slot) → ((s : Slot) → slot_entry (f s) ≡ slot_entry s) → (slots : List Slot)
    → map slot_entry (map f slots) ≡ map slot_entry slots
entries-same f same [] = refl
entries-same f same (s ∷ slots) =
    ap (λ e. e ∷ map slot_entry (map f slots)) (same s) ∙ ap (λ es. slot_entry s ∷ es) (entries-same f same slots)

pub entry-mark_at : (place : Place) (s : Slot) → slot_entry (mark_at place s) ≡ slot_entry s
entry-mark_at place s =
    elim (is_slot_at place s) as (λ b. slot_entry (cond b (marked s) s) ≡ slot_entry s) [ true ↦ refl | false ↦ refl ]

pub entry-valued_at : (place : Place) (found : Valued) (s : Slot) → slot_entry (valued_at place found s) ≡ slot_entry s
entry-valued_at place found s =
    elim (is_slot_at place s) as (λ b. slot_entry (cond b (with_found found s) s) ≡ slot_entry s) [ true ↦ refl | false ↦ refl ]

pub entries-marks : (slots : List Slot) (place : Place) → map slot_entry (marks slots place) ≡ map slot_entry slots
entries-marks slots place = entries-same (mark_at place) (entry-mark_at place) slots

pub entries-with_value : (slots : List Slot) (place : Place) (found : Valued)
    → map slot_entry (with_value slots place found) ≡ map slot_entry slots
entries-with_value slots place found = entries-same (valued_at place found) (entry-valued_at place found) slots

pub entries-published : (slots : List Slot) → map slot_entry (map as_published slots) ≡ map slot_entry slots
entries-published slots = entries-same as_published (λ s. refl) slots

-- what is put among the others is put among their movements
pub entries-put_slot : (slots : List Slot) (s : Slot)
    → map slot_entry (put_slot slots s) ≡ put (map slot_entry slots) (slot_entry s)
entries-put_slot [] s = refl
entries-put_slot (t ∷ ts) s =
    elim (is_before (slot_place s) (slot_place t))
    as (λ b. map slot_entry (cond b (s ∷ t ∷ ts) (t ∷ put_slot ts s)) ≡ cond b (slot_entry s ∷ slot_entry t ∷ map slot_entry ts) (slot_entry t ∷ put (map slot_entry ts) (slot_entry s))) [
      | true ↦ refl
      | false ↦ ap (λ es. slot_entry t ∷ es) (entries-put_slot ts s)
    ]

-- a movement that comes before the first of those in order comes before all
Precedes-along : (s t : Slot) (ts : List Slot) → IsSlotBefore s t → Precedes IsSlotBefore t ts → Precedes IsSlotBefore s ts
Precedes-along s t [] h k = tt
Precedes-along s t (u ∷ us) h k =
    (is_before-transitive (slot_place s) (slot_place t) (slot_place u) h k.0, Precedes-along s t us h k.1)

-- one that comes before each and before one more comes before all with that one
put_slot-Precedes : (t : Slot) (slots : List Slot) (s : Slot) → Precedes IsSlotBefore t slots → IsSlotBefore t s
    → Precedes IsSlotBefore t (put_slot slots s)
put_slot-Precedes t [] s h r = (r, tt)
put_slot-Precedes t (u ∷ us) s h r =
    elim (is_before (slot_place s) (slot_place u)) as (λ b. Precedes IsSlotBefore t (cond b (s ∷ u ∷ us) (u ∷ put_slot us s))) [
      | true ↦ (r, h)
      | false ↦ (h.0, put_slot-Precedes t us s h.1 r)
    ]

-- a movement put among those in order, none of them at its place, leaves them in order
put_slot-Pairwise : (slots : List Slot) (s : Slot) → Pairwise IsSlotBefore slots
    → Each (Fails (is_slot_at (slot_place s))) slots → Pairwise IsSlotBefore (put_slot slots s)
put_slot-Pairwise [] s h apart = (tt, tt)
put_slot-Pairwise (t ∷ ts) s h apart = by_cases (is_before (slot_place s) (slot_place t)) refl (put_slot-Pairwise ts s h.1 apart.1)
  where
    by_cases : (b : Bool) → is_before (slot_place s) (slot_place t) ≡ b → Pairwise IsSlotBefore (put_slot ts s)
        → Pairwise IsSlotBefore (cond b (s ∷ t ∷ ts) (t ∷ put_slot ts s))
    by_cases true is rest = ((is, Precedes-along s t ts is h.0), h)
    by_cases false is rest =
        let before : IsSlotBefore t s = passes_from_not_fails (is_before (slot_place t)) (slot_place s)
        (λ not_before. false≢true (sym is ∙ is_before-other (slot_place t) (slot_place s) apart.0 not_before)) in
        (put_slot-Precedes t ts s h.0 before, rest)

pub put_slot-in_order : (slots : List Slot) (s : Slot) → IsInPostingOrder (map slot_entry slots)
    → slot_at slots (slot_place s) ≡ None
    → IsInPostingOrder (map slot_entry (put_slot slots s))
put_slot-in_order slots s order none =
    from-ordered (put_slot slots s)
    (put_slot-Pairwise slots s (ordered slots order) (Fails-from_none (is_slot_at (slot_place s)) slots none))

-- a movement is put after all those that do not come after it
put_slot-at : (slots : List Slot) (s : Slot) (n : ℕ) → n ≤ length slots
    → ((k : ℕ) (d : Slot) → k < n → k < length slots → slot_comes_after (slot_place s) (get_or slots k d) ≡ false)
    → ((d : Slot) → n < length slots → slot_comes_after (slot_place s) (get_or slots n d) ≡ true)
    → put_slot slots s ≡ insert slots n s
put_slot-at [] s zero within front next = refl
put_slot-at [] s (suc n) within front next = absurd (omega (arith, within))
put_slot-at (t ∷ ts) s zero within front next =
    let after : is_before (slot_place s) (slot_place t) ≡ true = next t (omega arith) in
    rw after refl
put_slot-at (t ∷ ts) s (suc n) within front next =
    let not_after : is_before (slot_place s) (slot_place t) ≡ false = front zero t (omega arith) (omega arith) in
    rw not_after (ap (λ us. t ∷ us) (put_slot-at ts s n (omega (arith, within))
    (λ k d less more. front (suc k) d (omega arith) (omega arith)) (λ d more. next d (omega arith))))

-- the bound after a place
abbrev not_after : Place → Slot → Bool
not_after place s = not (slot_comes_after place s)

not_after-back : (place : Place) → HoldsBack (not_after place)
not_after-back place a b before passes =
    let never : is_before place (slot_place a) ≡ true → ⊥ = λ after.
    let later : is_before place (slot_place b) ≡ true = is_before-transitive place (slot_place a) (slot_place b) after before in
    let fails : not (is_before place (slot_place b)) ≡ false = ap not later in
    false≢true (sym fails ∙ passes) in
    ap not (fails_from_not_passes (is_before place) (slot_place a) never)

-- what a movement put in after such a bound makes
pub put_slot-sides : (slots new : List Slot) (s : Slot) → IsInPostingOrder (map slot_entry slots)
    → (at : ℕ) × HasSides (not_after (slot_place s)) slots at × (new ≡ insert slots at s) → new ≡ put_slot slots s
put_slot-sides slots new s order (at, sides, made) =
    let parted = IsPartitionedBy-HoldsBack (not_after (slot_place s)) (not_after-back (slot_place s)) slots (ordered slots order) in
    let point = point-from_sides (not_after (slot_place s)) slots at parted sides in
    made ∙ sym (put_slot-at slots s at sides.within
    (λ k d less within. not-true (slot_comes_after (slot_place s) (get_or slots k d)) (point.0 k d (omega arith) less))
    (λ d more. not-false (slot_comes_after (slot_place s) (get_or slots at d)) (point.1 at d (omega arith) more)))
