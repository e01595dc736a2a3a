-- What left by a line of a voucher before a movement: all of the one movement that leaves by it, or nothing.
use Rattle.std.proofs.Common.{◌≡◌, ℕ, ◌+◌, ℤ, pos, negsuc, ◌≤ℤ◌, Bool, true, false, not, cond, List, [], ◌∷◌, map, filter, unsigned_abs, Option, Some, None, Contains, inl, inr, refl, sym, ap, ◌∙◌, subst, arith}
use Rattle.std.specs.Option.{option_map_or}
use Rattle.std.proofs.lemmas.Bool.{false≢true}
use Rattle.std.proofs.lemmas.List.Kept.{AllPairs-filter}
use Rattle.stock_nums.specs.Causes.{is_entering}
use Rattle.stock_nums.specs.Places.{is_before}
use Rattle.stock_nums.specs.Targets.{is_same_target}
use Rattle.stock_nums.specs.declared.cause.Target.{Target}
use Rattle.stock_nums.specs.declared.entry.Entry.{Entry}
use Rattle.stock_nums.specs.declared.numbers.RecordNo.{RecordNo}
use Rattle.stock_nums.specs.declared.place.Place.{Place}
use Rattle.stock_nums.specs.declared.place.Side.{Side}
use Rattle.stock_nums.specs.declared.place.Side.TheVariants.{Leaves, Enters}
use Rattle.stock_model.specs.Enough.{entry_units}
use Rattle.stock_model.specs.InOrder.{IsBefore, IsInPostingOrder}
use Rattle.stock_model.specs.Values.{own_line}
use Rattle.stock_model.proofs.Pairwise.{Pairwise, Precedes-Contains, Pairwise-from_AllPairs, Contains-cases, Contains-first, Contains-later}
use Rattle.stock_laws.proofs.CostedRows.{both}
use Rattle.stock_laws.proofs.Linked.{is_same_target-true, is_same_target-refl}
use Rattle.cost_links.specs.Sources.{comes_before}
use Rattle.repost_frontier.specs.Readings.{found_of, slot_found}
use Rattle.repost_frontier.specs.Slots.{slot_at, is_slot_at}
use Rattle.repost_frontier.specs.declared.slot.Slot.{Slot}
use Rattle.repost_frontier.proofs.OnePasses.{find-found}
use Rattle.repost_frontier.proofs.SlotPlaces.{found-place}
use Rattle.repost_frontier.proofs.SlotReadings.{entry-found}
use Rattle.repost_index.specs.IndexState.{IndexState}
use Rattle.repost_index.specs.Indexed.{AreIndexed}
use Rattle.repost_index.specs.Moments.{IsPlaceOf}
use Rattle.repost_index.proofs.OwnPlaces.{line-once}
use Rattle.repost_laws.specs.Pieces.{whole}
use Rattle.repost_laws.specs.Valuations.{Found, worth_of, no_worth, found_value, is_leaving_by, left_by, earlier, taken_over}
use Rattle.repost_laws.specs.WholeBuilds.{worth_at}
use Rattle.repost_laws.proofs.EarlierOnes.{never_itself}
use Rattle.repost_laws.proofs.Filtered.{Contains-filtered, Contains-filter}
use Rattle.repost_laws.proofs.PieceSums.{sum_by-whole}
use Rattle.repost_laws.proofs.Turns.{both-true, false-from}
use Rattle.repost_spread.specs.Movements.{entries_of}

-- none is kept where none passes
filter-none : (p : Entry → Bool) (xs : List Entry) → ((f : Entry) → Contains xs f → p f ≡ true → ⊥) → filter p xs ≡ []
filter-none p [] none = refl
filter-none p (y ∷ ys) none =
    ap (λ (b : Bool). cond b (y ∷ filter p ys) (filter p ys)) (false-from (p y) (none y (Contains-first y ys)))
    ∙ filter-none p ys (λ f held. none f (Contains-later y ys f held))

-- one is kept where it alone passes
filter-one : (p : Entry → Bool) (xs : List Entry) (g : Entry) → Pairwise IsBefore xs → Contains xs g → p g ≡ true
    → ((f : Entry) → Contains xs f → p f ≡ true → f ≡ g) → filter p xs ≡ g ∷ []
filter-one p [] g ordered held passes alone = absurd (omega (arith, held.1))
filter-one p (y ∷ ys) g ordered held passes alone =
    elim (Contains-cases y ys g held) [
      | inl same ↦
          let rest : filter p ys ≡ [] = filter-none p ys (λ f later own.
          never_itself y (subst (IsBefore y) (alone f (Contains-later y ys f later) own ∙ sym same)
          (Precedes-Contains IsBefore y ys f ordered.0 later))) in
          ap (λ (b : Bool). cond b (y ∷ filter p ys) (filter p ys)) (ap p same ∙ passes)
          ∙ ap (λ (es : List Entry). y ∷ es) rest ∙ ap (λ (f : Entry). f ∷ []) same
      | inr later ↦
          let fails : p y ≡ false = false-from (p y) (λ own.
          never_itself y (subst (IsBefore y) (sym (alone y (Contains-first y ys) own))
          (Precedes-Contains IsBefore y ys g ordered.0 later))) in
          ap (λ (b : Bool). cond b (y ∷ filter p ys) (filter p ys)) fails
          ∙ filter-one p ys g ordered.1 later passes (λ f held_f own. alone f (Contains-later y ys f held_f) own)
    ]

-- what leaves is on the side that leaves
leaves-side : (side : Side) → not (is_entering side) ≡ true → side ≡ Leaves
leaves-side Leaves leaves = refl
leaves-side Enters leaves = absurd (false≢true leaves)

-- what leaves by a line is of it
leaving-own : (by : Target) (f : Entry) → is_leaving_by by f ≡ true → (own_line f ≡ by) × (f.place.side ≡ Leaves)
leaving-own by f leaving =
    let parts = both-true (is_same_target (own_line f) by) (not (is_entering f.place.side)) leaving in
    (is_same_target-true (own_line f) by parts.0, leaves-side f.place.side parts.1)

-- nothing is taken over where nothing left by the line before
pub left-none : (found : Found) (line : List Entry) (e : Entry) (by : Target)
    → ((f : Entry) → Contains line f → own_line f ≡ by → f.place.side ≡ Leaves → is_before f.place e.place ≡ true → ⊥)
    → taken_over found (left_by (earlier line e) by) ≡ 0
left-none found line e by none =
    let empty : filter (is_leaving_by by) (earlier line e) ≡ [] =
    filter-none (is_leaving_by by) (earlier line e) (λ f held own.
    let parts = Contains-filtered (comes_before e.place) line f held in
    let of = leaving-own by f own in
    none f parts.0 of.0 of.1 parts.1) in
    ap (λ (es : List Entry). taken_over found (map (whole entry_units) es)) empty

none-more : (n : ℕ) → 0 + n ≡ n
none-more n = omega arith

-- and all that the one movement is worth where it did
pub left-one : (found : Found) (line : List Entry) (index : IndexState) (e : Entry) (by : Target) (g : Entry)
    → AreIndexed line index → Contains line g → own_line g ≡ by → g.place.side ≡ Leaves → is_before g.place e.place ≡ true
    → taken_over found (left_by (earlier line e) by) ≡ found_value found g
left-one found line index e by g indexed held own on before =
    let ordered = Pairwise-from_AllPairs IsBefore (earlier line e)
    (AllPairs-filter IsBefore (comes_before e.place) line indexed.in_order) in
    let leaves : not (is_entering g.place.side) ≡ true = ap (λ (s : Side). not (is_entering s)) on in
    let same : is_same_target (own_line g) by ≡ true = ap (is_same_target (own_line g)) (sym own) ∙ is_same_target-refl (own_line g) in
    let one : filter (is_leaving_by by) (earlier line e) ≡ g ∷ [] =
    filter-one (is_leaving_by by) (earlier line e) g ordered (Contains-filter (comes_before e.place) line g held before)
    (both same leaves) (λ f there passes.
    let of = leaving-own by f passes in
    line-once line index f g indexed (Contains-filtered (comes_before e.place) line f there).0 held (of.0 ∙ sym own)
    (of.1 ∙ sym on)) in
    ap (λ (es : List Entry). taken_over found (map (whole entry_units) es)) one
    ∙ sum_by-whole entry_units (found_value found) (λ f. f.quantity.0) (g ∷ []) ∙ none-more (found_value found g)

-- a movement that is found is one of the line
Contains-entry : (slots : List Slot) (s : Slot) → Contains slots s → Contains (entries_of slots) s.entry
Contains-entry [] s held = absurd (omega (arith, held.1))
Contains-entry (t ∷ slots) s held =
    elim (Contains-cases t slots s held) [
      | inl same ↦ subst (λ (u : Slot). Contains (entries_of (t ∷ slots)) u.entry) same (Contains-first t.entry (entries_of slots))
      | inr later ↦ Contains-later t.entry (entries_of slots) s.entry (Contains-entry slots s later)
    ]

-- the place is of the line of a voucher, and so is the movement that stands there
own-at : (by : Target) (place : Place) (g : Entry) → IsPlaceOf by Leaves place → g.place ≡ place
    → (own_line g ≡ by) × (g.place.side ≡ Leaves)
own-at by place g is at =
    let own : own_line g ≡ by = ap (λ (p : Place). record { voucher = p.voucher; line = p.line }) at
    ∙ ap (λ (v : RecordNo). record { voucher = v; line = place.line }) is.voucher
    ∙ ap (λ (n : ℕ). record { voucher = by.voucher; line = n }) is.line in
    (own, ap (λ (p : Place). p.side) at ∙ is.side)

none-some : (s : Slot) → None ≡ Some s → ⊥
none-some s same = cc

-- what was found at the place of the line before the movement is what is taken over
pub left-at : (slots : List Slot) (line : List Entry) (index : IndexState) (e : Entry) (by : Target) (place : Place)
    → entries_of slots ≡ line → AreIndexed line index → IsPlaceOf by Leaves place
    → ((f : Entry) → Contains line f → own_line f ≡ by → f.place.side ≡ Leaves → f.place ≡ place)
    → is_before place e.place ≡ true
    → unsigned_abs (worth_at (found_of slots) place).value.0 ≡ taken_over (found_of slots) (left_by (earlier line e) by)
left-at slots line index e by place same indexed is only before = by_cases (slot_at slots place) refl
  where
    by_cases : (o : Option Slot) → slot_at slots place ≡ o
        → unsigned_abs (worth_at (found_of slots) place).value.0 ≡ taken_over (found_of slots) (left_by (earlier line e) by)
    by_cases (Some s) there =
        let at : s.entry.place ≡ place = found-place slots place s there in
        let held : Contains line s.entry = subst (λ (es : List Entry). Contains es s.entry) same
        (Contains-entry slots s (find-found (is_slot_at place) slots s there).1) in
        let of = own-at by place s.entry is at in
        ap (λ (p : Place). unsigned_abs (worth_at (found_of slots) p).value.0) (sym at)
        ∙ sym (left-one (found_of slots) line index e by s.entry indexed held of.0 of.1
        (ap (λ (p : Place). is_before p e.place) at ∙ before))
    by_cases None there =
        let nothing : unsigned_abs (worth_at (found_of slots) place).value.0 ≡ 0 =
        ap (λ (o : Option Slot). unsigned_abs (option_map_or worth_of (option_map_or slot_found o None) no_worth).value.0) there in
        nothing ∙ sym (left-none (found_of slots) line e by (λ f held own on early.
        let slot = entry-found slots f (subst IsInPostingOrder (sym same) indexed.in_order)
        (subst (λ (es : List Entry). Contains es f) (sym same) held) in
        none-some slot.0 (sym there ∙ ap (slot_at slots) (sym (only f held own on)) ∙ slot.1)))

-- an amount from 0 is its number of minor units
pub from-zero : (z : ℤ) → pos 0 ≤ℤ z → z ≡ pos (unsigned_abs z)
from-zero (pos n) more = refl
from-zero (negsuc n) more = absurd (omega (arith, more))

-- two places that are found are one
pub same-place : (p q : Place) → Some p ≡ Some q → p ≡ q
same-place p q same = cc
