-- What calls of a frontier make of what is found, suspect and valued at each place.
use Rattle.std.proofs.Common.{◌≡◌, ◌≢◌, Bool, true, false, cond, List, [], ◌∷◌, map, Option, Some, None, inl, inr, refl, sym, ap, ◌∙◌, subst, arith, Contains}
use Rattle.std.specs.List.{find}
use Rattle.std.specs.Option.{option_map, option_map_or}
use Rattle.std.proofs.lemmas.Bool.{false≢true}
use Rattle.cost_links.specs.declared.values.Valued.{Valued}
use Rattle.stock_nums.specs.Places.{is_before}
use Rattle.stock_nums.specs.declared.entry.Entry.{Entry}
use Rattle.stock_nums.specs.declared.place.Place.{Place}
use Rattle.stock_nums.proofs.PlaceOrder.{is_before-irreflexive, is_before-asymmetric}
use Rattle.stock_model.specs.InOrder.{IsInPostingOrder}
use Rattle.stock_model.proofs.Pairwise.{Pairwise, Precedes-Contains, Each, Contains-cases, Contains-first, Contains-later}
use Rattle.repost_laws.specs.Builds.{IsFoundAt, IsValuedAt, IsFirst, IsClean}
use Rattle.repost_laws.proofs.Turns.{place-cases}
use Rattle.repost_frontier.specs.Readings.{value_of, slot_found, found_of, suspects_of, revalued_of}
use Rattle.repost_frontier.specs.Slots.{slot_entry, slot_place, is_slot_at, is_suspect, is_revalued, slot_at, put_slot, new_slot, marked, mark_at, marks, with_found, valued_at, with_value, as_published}
use Rattle.repost_frontier.specs.declared.slot.Slot.{Slot}
use Rattle.repost_frontier.proofs.OnePasses.{Fails, Fails-from_none, find-found, find-map}
use Rattle.repost_frontier.proofs.SlotOrder.{entry-mark_at, entry-valued_at}
use Rattle.repost_frontier.proofs.SlotPlaces.{IsSlotBefore, ordered, is_slot_at-own, is_slot_at-same, is_slot_at-other, found-place, Contains-found}

-- what keeps the movement of each keeps where each stands
abbrev KeepsEntries : (Slot → Slot) → Type 0
KeepsEntries f = (s : Slot) → slot_entry (f s) ≡ slot_entry s

slot_at-map : (f : Slot → Slot) → KeepsEntries f → (slots : List Slot) (p : Place)
    → slot_at (map f slots) p ≡ option_map f (slot_at slots p)
slot_at-map f keeps slots p =
    let of_entry : Entry → Bool = λ e. is_slot_at p (new_slot e) in
    find-map (is_slot_at p) f (λ s. ap of_entry (keeps s)) slots

-- what is read at a place, or something where there is none
abbrev read_at : {R : Type 0} → (Slot → R) → R → List Slot → Place → R
read_at read none slots p = option_map_or read (slot_at slots p) none

-- where a change of each keeps what is read of those at a place
read-kept : {R : Type 0} (read : Slot → R) (none : R) (f : Slot → Slot) → KeepsEntries f → (slots : List Slot) (p : Place)
    → ((s : Slot) → slot_place s ≡ p → read (f s) ≡ read s) → read_at read none (map f slots) p ≡ read_at read none slots p
read-kept read none f keeps slots p same =
    ap (λ (o : Option Slot). option_map_or read o none) (slot_at-map f keeps slots p) ∙ by_cases (slot_at slots p) refl
  where
    by_cases : (o : Option Slot) → slot_at slots p ≡ o → option_map_or read (option_map f o) none ≡ option_map_or read o none
    by_cases None is = refl
    by_cases (Some s) is = same s (found-place slots p s is)

-- where it makes something of the one at a place
read-made : {R : Type 0} (read : Slot → R) (none : R) (f : Slot → Slot) → KeepsEntries f
    → (slots : List Slot) (p : Place) (s : Slot) (made : R)
    → slot_at slots p ≡ Some s → read (f s) ≡ made → read_at read none (map f slots) p ≡ made
read-made read none f keeps slots p s made found is =
    ap (λ (o : Option Slot). option_map_or read o none) (slot_at-map f keeps slots p ∙ ap (option_map f) found) ∙ is

-- a mark and a value reach those at the place
mark_at-own : (place : Place) (s : Slot) → slot_place s ≡ place → mark_at place s ≡ marked s
mark_at-own place s at = ap (λ b. cond b (marked s) s) (is_slot_at-same place s at)

valued_at-own : (place : Place) (v : Valued) (s : Slot) → slot_place s ≡ place → valued_at place v s ≡ with_found v s
valued_at-own place v s at = ap (λ b. cond b (with_found v s) s) (is_slot_at-same place s at)

-- and no others
mark_at-other : (place p : Place) (s : Slot) → p ≢ place → slot_place s ≡ p → mark_at place s ≡ s
mark_at-other place p s other at =
    ap (λ b. cond b (marked s) s) (is_slot_at-other place s (λ same. other (sym at ∙ same)))

valued_at-other : (place p : Place) (v : Valued) (s : Slot) → p ≢ place → slot_place s ≡ p → valued_at place v s ≡ s
valued_at-other place p v s other at =
    ap (λ b. cond b (with_found v s) s) (is_slot_at-other place s (λ same. other (sym at ∙ same)))

-- values
pub found-valued : (slots : List Slot) (place : Place) (v : Valued) (s : Slot) → slot_at slots place ≡ Some s
    → IsFoundAt (found_of slots) (found_of (with_value slots place v)) place (value_of v)
found-valued slots place v s found =
    record {
      own = read-made slot_found None (valued_at place v) (entry-valued_at place v) slots place s (Some (value_of v)) found
          (ap slot_found (valued_at-own place v s (found-place slots place s found)));
      others = λ p other. read-kept slot_found None (valued_at place v) (entry-valued_at place v) slots p
          (λ t at. ap slot_found (valued_at-other place p v t other at));
    }

pub revalued-valued : (slots : List Slot) (place : Place) (v : Valued) (s : Slot) → slot_at slots place ≡ Some s
    → IsValuedAt (revalued_of slots) (revalued_of (with_value slots place v)) place
revalued-valued slots place v s found =
    record {
      own = read-made is_revalued false (valued_at place v) (entry-valued_at place v) slots place s true found
          (ap is_revalued (valued_at-own place v s (found-place slots place s found)));
      others = λ p other. read-kept is_revalued false (valued_at place v) (entry-valued_at place v) slots p
          (λ t at. ap is_revalued (valued_at-other place p v t other at));
    }

pub suspect-valued : (slots : List Slot) (place : Place) (v : Valued) → suspects_of (with_value slots place v) place ≡ false
suspect-valued slots place v =
    ap (λ (o : Option Slot). option_map_or is_suspect o false) (slot_at-map (valued_at place v) (entry-valued_at place v) slots place)
    ∙ by_cases (slot_at slots place) refl
  where
    by_cases : (o : Option Slot) → slot_at slots place ≡ o
        → option_map_or is_suspect (option_map (valued_at place v) o) false ≡ false
    by_cases None is = refl
    by_cases (Some s) is = ap is_suspect (valued_at-own place v s (found-place slots place s is))

pub suspects-valued : (slots : List Slot) (place : Place) (v : Valued) (p : Place) → p ≢ place
    → suspects_of (with_value slots place v) p ≡ suspects_of slots p
suspects-valued slots place v p other =
    read-kept is_suspect false (valued_at place v) (entry-valued_at place v) slots p (λ t at. ap is_suspect (valued_at-other place p v t other at))

-- marks
pub suspect-marked : (slots : List Slot) (place : Place) (s : Slot) → slot_at slots place ≡ Some s
    → suspects_of (marks slots place) place ≡ true
suspect-marked slots place s found =
    read-made is_suspect false (mark_at place) (entry-mark_at place) slots place s true found
    (ap is_suspect (mark_at-own place s (found-place slots place s found)))

pub suspects-marked : (slots : List Slot) (place p : Place) → p ≢ place
    → suspects_of (marks slots place) p ≡ suspects_of slots p
suspects-marked slots place p other =
    read-kept is_suspect false (mark_at place) (entry-mark_at place) slots p (λ t at. ap is_suspect (mark_at-other place p t other at))

pub found-marked : (slots : List Slot) (place p : Place) → found_of (marks slots place) p ≡ found_of slots p
found-marked slots place p =
    read-kept slot_found None (mark_at place) (entry-mark_at place) slots p
    (λ s _. elim (is_slot_at place s) as (λ b. slot_found (cond b (marked s) s) ≡ slot_found s) [ true ↦ refl | false ↦ refl ])

pub revalued-marked : (slots : List Slot) (place p : Place) → revalued_of (marks slots place) p ≡ revalued_of slots p
revalued-marked slots place p =
    read-kept is_revalued false (mark_at place) (entry-mark_at place) slots p
    (λ s _. elim (is_slot_at place s) as (λ b. is_revalued (cond b (marked s) s) ≡ is_revalued s) [ true ↦ refl | false ↦ refl ])

-- publications
pub revalued-published : (slots : List Slot) (p : Place) → revalued_of (map as_published slots) p ≡ false
revalued-published slots p =
    ap (λ (o : Option Slot). option_map_or is_revalued o false) (slot_at-map as_published (λ s. refl) slots p) ∙ by_cases (slot_at slots p)
  where
    by_cases : (o : Option Slot) → option_map_or is_revalued (option_map as_published o) false ≡ false
    by_cases None = refl
    by_cases (Some s) = refl

pub found-published : (slots : List Slot) (p : Place) → found_of (map as_published slots) p ≡ found_of slots p
found-published slots p = read-kept slot_found None as_published (λ s. refl) slots p (λ s at. refl)

pub suspects-published : (slots : List Slot) (p : Place) → suspects_of (map as_published slots) p ≡ suspects_of slots p
suspects-published slots p = read-kept is_suspect false as_published (λ s. refl) slots p (λ s at. refl)

-- one more movement: at its place it is found, and elsewhere what was
slot_at-put_own : (slots : List Slot) (s : Slot) (p : Place) → is_slot_at p s ≡ true → Each (Fails (is_slot_at p)) slots
    → slot_at (put_slot slots s) p ≡ Some s
slot_at-put_own [] s p at none = rw at refl
slot_at-put_own (t ∷ ts) s p at none =
    elim (is_before (slot_place s) (slot_place t)) as (λ b. find (is_slot_at p) (cond b (s ∷ t ∷ ts) (t ∷ put_slot ts s)) ≡ Some s) [
      | true ↦ rw at refl
      | false ↦ rw none.0 (slot_at-put_own ts s p at none.1)
    ]

slot_at-put_other : (slots : List Slot) (s : Slot) (p : Place) → is_slot_at p s ≡ false
    → slot_at (put_slot slots s) p ≡ slot_at slots p
slot_at-put_other [] s p other = rw other refl
slot_at-put_other (t ∷ ts) s p other =
    elim (is_before (slot_place s) (slot_place t))
    as (λ b. find (is_slot_at p) (cond b (s ∷ t ∷ ts) (t ∷ put_slot ts s)) ≡ find (is_slot_at p) (t ∷ ts)) [
      | true ↦ rw other refl
      | false ↦ ap (λ (o : Option Slot). cond (is_slot_at p t) (Some t) o) (slot_at-put_other ts s p other)
    ]

-- what is read is as before at other places
read-put_other : {R : Type 0} (read : Slot → R) (none : R) (slots : List Slot) (e : Entry) (p : Place) → p ≢ e.place
    → read_at read none (put_slot slots (new_slot e)) p ≡ read_at read none slots p
read-put_other read none slots e p other =
    ap (λ (o : Option Slot). option_map_or read o none)
    (slot_at-put_other slots (new_slot e) p (is_slot_at-other p (new_slot e) (λ same. other (sym same))))

-- and at its own what is read of a new one
read-put_own : {R : Type 0} (read : Slot → R) (none : R) (slots : List Slot) (e : Entry) → slot_at slots e.place ≡ None
    → read_at read none (put_slot slots (new_slot e)) e.place ≡ read (new_slot e)
read-put_own read none slots e apart =
    ap (λ (o : Option Slot). option_map_or read o none)
    (slot_at-put_own slots (new_slot e) e.place (is_slot_at-own (new_slot e)) (Fails-from_none (is_slot_at e.place) slots apart))

-- so nothing changes that reads nothing of a new one
read-put : {R : Type 0} (read : Slot → R) (none : R) (slots : List Slot) (e : Entry) (p : Place) → slot_at slots e.place ≡ None
    → read (new_slot e) ≡ none → read_at read none (put_slot slots (new_slot e)) p ≡ read_at read none slots p
read-put read none slots e p apart nothing =
    elim (place-cases p e.place) [
      | inl same ↦
          let here = read-put_own read none slots e apart ∙ nothing
          ∙ sym (ap (λ (o : Option Slot). option_map_or read o none) apart) in
          subst (λ (q : Place). read_at read none (put_slot slots (new_slot e)) q ≡ read_at read none slots q) (sym same) here
      | inr other ↦ read-put_other read none slots e p other
    ]

pub suspect-put : (slots : List Slot) (e : Entry) → slot_at slots e.place ≡ None
    → suspects_of (put_slot slots (new_slot e)) e.place ≡ true
suspect-put slots e apart = read-put_own is_suspect false slots e apart

pub suspects-put : (slots : List Slot) (e : Entry) (p : Place) → p ≢ e.place
    → suspects_of (put_slot slots (new_slot e)) p ≡ suspects_of slots p
suspects-put slots e p other = read-put_other is_suspect false slots e p other

pub found-put : (slots : List Slot) (e : Entry) (p : Place) → slot_at slots e.place ≡ None
    → found_of (put_slot slots (new_slot e)) p ≡ found_of slots p
found-put slots e p apart = read-put slot_found None slots e p apart refl

pub revalued-put : (slots : List Slot) (e : Entry) (p : Place) → slot_at slots e.place ≡ None
    → revalued_of (put_slot slots (new_slot e)) p ≡ revalued_of slots p
revalued-put slots e p apart = read-put is_revalued false slots e p apart refl

-- a movement of the line with what was found of it
pub Contains-slot : (slots : List Slot) (e : Entry) → Contains (map slot_entry slots) e
    → (s : Slot) × Contains slots s × (slot_entry s ≡ e)
Contains-slot [] e held = absurd (omega (arith, held.1))
Contains-slot (s ∷ slots) e held =
    elim (Contains-cases (slot_entry s) (map slot_entry slots) e held) [
      | inl same ↦ (s, Contains-first s slots, same)
      | inr later ↦ let rest = Contains-slot slots e later in (rest.0, Contains-later s slots rest.0 rest.1, rest.2)
    ]

-- and back
Contains-entry : (slots : List Slot) (s : Slot) → Contains slots s → Contains (map slot_entry slots) (slot_entry s)
Contains-entry [] s held = absurd (omega (arith, held.1))
Contains-entry (t ∷ slots) s held =
    elim (Contains-cases t slots s held) [
      | inl same ↦ subst (λ (u : Slot). Contains (slot_entry t ∷ map slot_entry slots) (slot_entry u)) same (Contains-first (slot_entry t) (map slot_entry slots))
      | inr later ↦ Contains-later (slot_entry t) (map slot_entry slots) (slot_entry s) (Contains-entry slots s later)
    ]

pub entry-found : (slots : List Slot) (e : Entry) → IsInPostingOrder (map slot_entry slots) → Contains (map slot_entry slots) e
    → (s : Slot) × (slot_at slots e.place ≡ Some s) × (s.entry ≡ e)
entry-found slots e order held =
    let there = Contains-slot slots e held in
    let s = there.0 in
    (s, subst (λ (f : Entry). slot_at slots f.place ≡ Some s) there.2 (Contains-found slots s order there.1), there.2)

-- no suspect comes before the first
not-sooner : (slots : List Slot) (s t : Slot) → Pairwise IsSlotBefore slots → find is_suspect slots ≡ Some s → Contains slots t
    → is_suspect t ≡ true → is_before (slot_place t) (slot_place s) ≡ false
not-sooner [] s t order first held suspect = cc
not-sooner (u ∷ us) s t order first held suspect =
    by_cases (is_suspect u) refl first (λ later rest. not-sooner us s t order.1 later rest suspect)
  where
    by_cases : (b : Bool) → is_suspect u ≡ b → cond b (Some u) (find is_suspect us) ≡ Some s
        → (find is_suspect us ≡ Some s → Contains us t → is_before (slot_place t) (slot_place s) ≡ false)
        → is_before (slot_place t) (slot_place s) ≡ false
    by_cases true is found rest =
        let same : u ≡ s = cc in
        elim (Contains-cases u us t held) [
          | inl own ↦ subst (λ (v : Slot). is_before (slot_place t) (slot_place v) ≡ false) (sym own ∙ same) (is_before-irreflexive (slot_place t))
          | inr later ↦
              let before : IsSlotBefore u t = Precedes-Contains IsSlotBefore u us t order.0 later in
              subst (λ (v : Slot). is_before (slot_place t) (slot_place v) ≡ false) same (is_before-asymmetric (slot_place u) (slot_place t) before)
        ]
    by_cases false is found rest =
        elim (Contains-cases u us t held) [
          | inl own ↦ absurd (false≢true (sym is ∙ ap is_suspect own ∙ suspect))
          | inr later ↦ rest found later
        ]

pub slot-first : (slots : List Slot) (s : Slot) → IsInPostingOrder (map slot_entry slots) → find is_suspect slots ≡ Some s
    → slot_at slots (slot_place s) ≡ Some s
slot-first slots s order first = Contains-found slots s order (find-found is_suspect slots s first).1

pub suspect-first : (slots : List Slot) (s : Slot) → IsInPostingOrder (map slot_entry slots) → find is_suspect slots ≡ Some s
    → suspects_of slots (slot_place s) ≡ true
suspect-first slots s order first =
    ap (λ (o : Option Slot). option_map_or is_suspect o false) (slot-first slots s order first) ∙ (find-found is_suspect slots s first).0

pub first-first : (slots : List Slot) (s : Slot) → IsInPostingOrder (map slot_entry slots) → find is_suspect slots ≡ Some s
    → IsFirst (map slot_entry slots) (suspects_of slots) s.entry
first-first slots s order first =
    record {
      held = Contains-entry slots s (find-found is_suspect slots s first).1;
      first = λ f held suspect.
          let there = entry-found slots f order held in
          let t = there.0 in
          let own : is_suspect t ≡ true = sym (ap (λ (o : Option Slot). option_map_or is_suspect o false) there.1) ∙ suspect in
          let later = not-sooner slots s t (ordered slots order) first (find-found (is_slot_at f.place) slots t there.1).1 own in
          subst (λ (g : Entry). is_before g.place (slot_place s) ≡ false) there.2 later;
    }

-- where each fails a test, one of them does
Each-Contains : (p : Slot → Bool) (slots : List Slot) (s : Slot) → Each (Fails p) slots → Contains slots s → p s ≡ false
Each-Contains p [] s h held = absurd (omega (arith, held.1))
Each-Contains p (t ∷ slots) s h held =
    elim (Contains-cases t slots s held) [
      | inl same ↦ subst (λ (u : Slot). p u ≡ false) same h.0
      | inr later ↦ Each-Contains p slots s h.1 later
    ]

pub clean-first : (slots : List Slot) → find is_suspect slots ≡ None → IsClean (map slot_entry slots) (suspects_of slots)
clean-first slots none f held = by_cases (slot_at slots f.place) refl
  where
    by_cases : (o : Option Slot) → slot_at slots f.place ≡ o → option_map_or is_suspect o false ≡ false
    by_cases None is = refl
    by_cases (Some s) is =
        Each-Contains is_suspect slots s (Fails-from_none is_suspect slots none) (find-found (is_slot_at f.place) slots s is).1
