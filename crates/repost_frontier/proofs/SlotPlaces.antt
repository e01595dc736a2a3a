-- Movements in posting order, found by their places.
use Rattle.std.proofs.Common.{◌≡◌, ◌≢◌, ℕ, zero, suc, ◌<◌, Bool, true, false, List, [], ◌∷◌, length, get_or, map, slice_get, Option, Some, None, IfSome, inl, inr, IsTrue, sym, ap, ◌∙◌, subst, arith, Contains}
use Rattle.std.specs.List.Sorted.{IsPartitionedBy, IsPartitionPoint}
use Rattle.std.proofs.lemmas.Bool.{false≢true, cases_lt}
use Rattle.std.proofs.lemmas.Option.{slice_get-get_or, get_or_from_slice_get, slice_get_past}
use Rattle.stock_nums.specs.Places.{is_before}
use Rattle.stock_nums.specs.declared.place.Place.{Place}
use Rattle.stock_nums.proofs.PlaceOrder.{is_before-transitive, is_before-total}
use Rattle.stock_model.specs.InOrder.{IsBefore, IsInPostingOrder}
use Rattle.stock_model.proofs.Pairwise.{Precedes, Pairwise, Each, Each-at, Each-weaker, Each-from_Precedes, Pairwise-from_AllPairs, AllPairs-from_Pairwise}
use Rattle.key_order.specs.SamePlace.{is_same_place}
use Rattle.key_order.proofs.SamePlaces.{is_same_place-true, is_same_place-refl, is_same_place-before, is_same_place-after}
use Rattle.repost_frontier.specs.Slots.{slot_entry, slot_place, is_slot_at, slot_comes_before, slot_comes_after, slot_at}
use Rattle.repost_frontier.specs.declared.slot.Slot.{Slot}
use Rattle.repost_frontier.proofs.OnePasses.{Fails, StandsAt, fails_from_not_passes, find-none, find-found, find-StandsAt}

-- the first movement comes before the second
abbrev pub IsSlotBefore : Slot → Slot → Type 0
IsSlotBefore a b = IsTrue (is_before (slot_place a) (slot_place b))

-- a movement that comes before others does so with what was found of them, and back
Precedes-slots : (s : Slot) (slots : List Slot) → Precedes IsBefore (slot_entry s) (map slot_entry slots)
    → Precedes IsSlotBefore s slots
Precedes-slots s [] h = tt
Precedes-slots s (t ∷ ts) h = (h.0, Precedes-slots s ts h.1)

Precedes-entries : (s : Slot) (slots : List Slot) → Precedes IsSlotBefore s slots
    → Precedes IsBefore (slot_entry s) (map slot_entry slots)
Precedes-entries s [] h = tt
Precedes-entries s (t ∷ ts) h = (h.0, Precedes-entries s ts h.1)

Pairwise-slots : (slots : List Slot) → Pairwise IsBefore (map slot_entry slots) → Pairwise IsSlotBefore slots
Pairwise-slots [] h = tt
Pairwise-slots (s ∷ slots) h = (Precedes-slots s slots h.0, Pairwise-slots slots h.1)

Pairwise-entries : (slots : List Slot) → Pairwise IsSlotBefore slots → Pairwise IsBefore (map slot_entry slots)
Pairwise-entries [] h = tt
Pairwise-entries (s ∷ slots) h = (Precedes-entries s slots h.0, Pairwise-entries slots h.1)

-- posting order by recursion on the list
pub ordered : (slots : List Slot) → IsInPostingOrder (map slot_entry slots) → Pairwise IsSlotBefore slots
ordered slots order = Pairwise-slots slots (Pairwise-from_AllPairs IsBefore (map slot_entry slots) order)

pub from-ordered : (slots : List Slot) → Pairwise IsSlotBefore slots → IsInPostingOrder (map slot_entry slots)
from-ordered slots order = AllPairs-from_Pairwise IsBefore (map slot_entry slots) (Pairwise-entries slots order)

-- what stands at the place has it
pub is_slot_at-true : (place : Place) (s : Slot) → is_slot_at place s ≡ true → slot_place s ≡ place
is_slot_at-true place s at = is_same_place-true (slot_place s) place at

-- and each movement stands at its own place
pub is_slot_at-own : (s : Slot) → is_slot_at (slot_place s) s ≡ true
is_slot_at-own s = is_same_place-refl (slot_place s)

pub is_slot_at-same : (place : Place) (s : Slot) → slot_place s ≡ place → is_slot_at place s ≡ true
is_slot_at-same place s same = subst (λ (p : Place). is_slot_at p s ≡ true) same (is_slot_at-own s)

-- and at no other
pub is_slot_at-other : (place : Place) (s : Slot) → slot_place s ≢ place → is_slot_at place s ≡ false
is_slot_at-other place s other = fails_from_not_passes (is_slot_at place) s (λ at. other (is_slot_at-true place s at))

-- none that comes before one at the place, or after it, is at the place
not_at-before : (place : Place) (s t : Slot) → is_slot_at place t ≡ true → IsSlotBefore s t → is_slot_at place s ≡ false
not_at-before place s t at before =
    is_same_place-before (slot_place s) place
    (subst (λ (p : Place). is_before (slot_place s) p ≡ true) (is_slot_at-true place t at) before)

not_at-after : (place : Place) (s t : Slot) → is_slot_at place s ≡ true → IsSlotBefore s t → is_slot_at place t ≡ false
not_at-after place s t at before =
    is_same_place-after (slot_place t) place
    (subst (λ (p : Place). is_before p (slot_place t) ≡ true) (is_slot_at-true place s at) before)

-- a place that is another and does not come before comes after
pub is_before-other : (p q : Place) → is_same_place p q ≡ false → is_before p q ≡ false → is_before q p ≡ true
is_before-other p q other not_before =
    elim (is_before-total p q) [
      | inl h ↦ absurd (false≢true (sym not_before ∙ h))
      | inr h ↦ elim h [
        | inl k ↦ k
        | inr same ↦ absurd (false≢true (sym other ∙ subst (λ (r : Place). is_same_place p r ≡ true) same (is_same_place-refl p)))
      ]
    ]

-- the movement at an index that stands at the place is the only one there
pub stands : (place : Place) (slots : List Slot) (n : ℕ) (s : Slot) → Pairwise IsSlotBefore slots → slice_get slots n ≡ Some s
    → is_slot_at place s ≡ true → StandsAt (is_slot_at place) slots n
stands place [] zero s order read at = cc
stands place [] (suc n) s order read at = cc
stands place (t ∷ ts) zero s order read at =
    let same : s ≡ t = cc in
    let here : is_slot_at place t ≡ true = subst (λ (u : Slot). is_slot_at place u ≡ true) same at in (
      here,
      Each-weaker (IsSlotBefore t) (Fails (is_slot_at place)) (λ u before. not_at-after place t u here before) ts
          (Each-from_Precedes IsSlotBefore t ts order.0),
    )
stands place (t ∷ ts) (suc n) s order read at =
    let before : IsSlotBefore t s = Each-at (IsSlotBefore t) ts n s (Each-from_Precedes IsSlotBefore t ts order.0) read in
    (not_at-before place t s at before, stands place ts n s order.1 read at)

-- none stands at the place where all before an index come before it and the one at the index comes after it
pub none-stands : (place : Place) (slots : List Slot) (n : ℕ) → Pairwise IsSlotBefore slots
    → ((k : ℕ) (d : Slot) → k < n → k < length slots → slot_comes_before place (get_or slots k d) ≡ true)
    → ((d : Slot) → n < length slots → slot_comes_after place (get_or slots n d) ≡ true)
    → Each (Fails (is_slot_at place)) slots
none-stands place [] n order front next = tt
none-stands place (s ∷ slots) zero order front next =
    let after : slot_comes_after place s ≡ true = next s (omega arith) in (
      is_same_place-after (slot_place s) place after,
      Each-weaker (IsSlotBefore s) (Fails (is_slot_at place))
          (λ t before. is_same_place-after (slot_place t) place (is_before-transitive place (slot_place s) (slot_place t) after before)) slots
          (Each-from_Precedes IsSlotBefore s slots order.0),
    )
none-stands place (s ∷ slots) (suc n) order front next =
    let before : slot_comes_before place s ≡ true = front zero s (omega arith) (omega arith) in (
      is_same_place-before (slot_place s) place before,
      none-stands place slots n order.1 (λ k d less within. front (suc k) d (omega arith) (omega arith)) (λ d within. next d (omega arith)),
    )

-- what comes before a movement passes a test where that one does
abbrev pub HoldsBack : (Slot → Bool) → Type 0
HoldsBack p = (a b : Slot) → IsSlotBefore a b → p b ≡ true → p a ≡ true

-- such a test parts movements in posting order
pub IsPartitionedBy-HoldsBack : (p : Slot → Bool) → HoldsBack p → (slots : List Slot) → Pairwise IsSlotBefore slots
    → IsPartitionedBy p slots
IsPartitionedBy-HoldsBack p back slots order i j d le within passes =
    elim (cases_lt i j) [
      | inl less ↦ back (get_or slots i d) (get_or slots j d) (AllPairs-from_Pairwise IsSlotBefore slots order i j d less within) passes
      | inr more ↦ let same : j ≡ i = omega arith in subst (λ k. p (get_or slots k d) ≡ true) same passes
    ]

pub comes_before-back : (place : Place) → HoldsBack (slot_comes_before place)
comes_before-back place a b before passes = is_before-transitive (slot_place a) (slot_place b) place before passes

-- what is read at an index is in the list
pub read-within : (slots : List Slot) (n : ℕ) (s : Slot) → slice_get slots n ≡ Some s
    → (n < length slots) × (s ≡ get_or slots n s)
read-within slots n s read =
    elim (cases_lt n (length slots)) [
      | inl within ↦ (within, sym (get_or_from_slice_get slots n s s read))
      | inr past ↦ let none : Some s ≡ None = sym read ∙ slice_get_past slots n past in cc
    ]

-- where the bound of the place falls
abbrev pub IsPointOf : Place → List Slot → ℕ → Type 0
IsPointOf place slots n = IsPartitionPoint (λ s. slot_comes_before place s ≡ true) (λ s. slot_comes_before place s ≡ false) slots n

-- there stands the movement of the place
pub found-there : (place : Place) (slots : List Slot) (n : ℕ) (s : Slot) → IsInPostingOrder (map slot_entry slots)
    → slice_get slots n ≡ Some s
    → is_slot_at place s ≡ true → slot_at slots place ≡ Some s
found-there place slots n s order read at =
    find-StandsAt (is_slot_at place) slots n (stands place slots n s (ordered slots order) read at) ∙ read

-- or none does
pub found-other : (place : Place) (slots : List Slot) (n : ℕ) (s : Slot) → IsInPostingOrder (map slot_entry slots)
    → IsPointOf place slots n
    → slice_get slots n ≡ Some s → is_slot_at place s ≡ false → slot_at slots place ≡ None
found-other place slots n s order point read other =
    let within = read-within slots n s read in
    let not_before : slot_comes_before place s ≡ false = subst (λ (t : Slot). slot_comes_before place t ≡ false) (sym within.1) (point.1 n s (omega arith) within.0) in
    let after = is_before-other (slot_place s) place other not_before in
    find-none (is_slot_at place) slots (none-stands place slots n (ordered slots order)
    (λ k d less _. point.0 k d (omega arith) less)
    (λ d more. subst (λ (t : Slot). slot_comes_after place t ≡ true) (sym (get_or_from_slice_get slots n s d read)) after))

-- and so where nothing is left to read
pub found-past : (place : Place) (slots : List Slot) (n : ℕ) → IsInPostingOrder (map slot_entry slots) → IsPointOf place slots n
    → slice_get slots n ≡ None → slot_at slots place ≡ None
found-past place slots n order point past =
    find-none (is_slot_at place) slots (none-stands place slots n (ordered slots order)
    (λ k d less _. point.0 k d (omega arith) less)
    (λ d more. let some : Some (get_or slots n d) ≡ None = sym (slice_get-get_or slots n d more) ∙ past in cc))

-- what is found at a place stands there
pub found-place : (slots : List Slot) (place : Place) (s : Slot) → slot_at slots place ≡ Some s → slot_place s ≡ place
found-place slots place s found = is_slot_at-true place s (find-found (is_slot_at place) slots s found).0

pub told-place : (slots : List Slot) (place : Place) (o : Option Slot) → o ≡ slot_at slots place
    → IfSome o (λ s. slot_place s ≡ place)
told-place slots place None is = tt
told-place slots place (Some s) is = found-place slots place s (sym is)

-- a movement of the list is found at its place
pub Contains-found : (slots : List Slot) (s : Slot) → IsInPostingOrder (map slot_entry slots) → Contains slots s
    → slot_at slots (slot_place s) ≡ Some s
Contains-found slots s order (n, within, is) =
    let read : slice_get slots n ≡ Some s = slice_get-get_or slots n s within ∙ ap Some is in
    found-there (slot_place s) slots n s order read (is_slot_at-own s)
