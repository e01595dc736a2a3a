-- The units of a key, by what is held before and with each place of it.
use Rattle.std.proofs.Common.{◌≡◌, ℕ, zero, suc, ◌+◌, ◌*◌, ◌^◌, ◌<◌, ◌≤◌, inl, inr, Bool, true, false, cond, not, List, [], ◌∷◌, length, get_or, filter, sum_by, pos, neg_ℤ, ◌<ℤ◌, unsigned_abs, Option, Some, None, IfSome, All, AllPairs, refl, sym, ap, ◌∙◌, subst, arith}
use Rattle.std.specs.Option.{option_map}
use Rattle.std.proofs.lemmas.Bool.{false≢true, cases_lt}
use Rattle.std.proofs.lemmas.Int.{ints}
use Rattle.std.proofs.lemmas.List.{get_or_default}
use Rattle.std.proofs.lemmas.List.Elements.{All-filter, filter_passes}
use Rattle.std.proofs.lemmas.List.Kept.{AllPairs-filter}
use Rattle.std.proofs.lemmas.List.Sums.{sum_by-cons, length-filter, count_by-le-length}
use Rattle.block_list.specs.Sums.{total}
use Rattle.stock_nums.specs.Causes.{is_entering}
use Rattle.stock_nums.specs.Places.{is_before}
use Rattle.stock_nums.specs.declared.entry.Entry.{Entry}
use Rattle.stock_nums.specs.declared.entry.Key.{Key}
use Rattle.stock_nums.specs.declared.limits.TheConstants.{MAX_QUANTITY}
use Rattle.stock_nums.specs.declared.place.Place.{Place}
use Rattle.stock_nums.proofs.PlaceOrder.{is_before-irreflexive, is_before-asymmetric}
use Rattle.stock_model.specs.Enough.{entry_key, is_same_key}
use Rattle.stock_laws.proofs.Enough.{is_same_key-true}
use Rattle.key_order.specs.declared.change.Change.{Change}
use Rattle.key_order.specs.declared.change.Lack.{Lack}
use Rattle.key_order.specs.Changes.{change_units, of_key, held_before, held_with, first_lack, leaving_change}
use Rattle.key_order.specs.KeyOrders.{precedes, AreInKeyOrder, HasNoneAt, is_change_at, put_change, without_change}
use Rattle.key_order.proofs.KeyOrdering.{Before, bound-cases, key-before_differs}
use Rattle.key_order.proofs.KeyPoints.{IsPoint, take-point}
use Rattle.key_order.proofs.KeyPlaces.{AreInKeyOrder-put_change, HasNoneAt-without_change}
use Rattle.layer_ranges.specs.Layers.{moved_units, layer_at, units_of_key, units_before, AreLeaving, HoldsUnit}
use Rattle.layer_ranges.specs.RangesState.{RangesState}
use Rattle.layer_ranges.specs.Sides.{changes_beside, without_entering, without_leaving}
use Rattle.layer_ranges.proofs.Numbering.{AreTold, layer_by, layer_from-find, IsExcess, excess-bound, layer_from-none, layer_from-some, layer_from-holds}

-- the change counts its units as leaving
abbrev pub IsFewer : Change → Type 0
IsFewer c = c.units <ℤ pos 0

-- what such changes count together
pub total-leaving : (cs : List Change) → All IsFewer cs → total change_units cs ≡ neg_ℤ (pos (sum_by moved_units cs))
total-leaving [] fewer = refl
total-leaving (c ∷ cs) fewer =
    let rest = total-leaving cs (λ k d l. fewer (suc k) d (omega (arith, l))) in
    let own : c.units <ℤ pos 0 = fewer zero c (omega arith) in
    let parts = sum_by-cons moved_units c cs in
    omega (arith, ints, rest, own, parts)

-- a list of changes whose places stand in posting order
abbrev pub AreInPlace : List Change → Type 0
AreInPlace cs = AllPairs (λ a b. is_before a.place b.place ≡ true) cs

-- those of a key do
of_key-AreInPlace : (cs : List Change) (key : Key) → AreInKeyOrder cs → AreInPlace (of_key key cs)
of_key-AreInPlace cs key order i j d less within =
    let ks = of_key key cs in
    let a = get_or ks i d in
    let b = get_or ks j d in
    let both : precedes a b ≡ true = AllPairs-filter Before (λ c. is_same_key c.key key) cs order i j d less within in
    let first : is_same_key a.key key ≡ true = filter_passes (λ c. is_same_key c.key key) cs i d (omega (arith, less, within)) in
    let second : is_same_key b.key key ≡ true = filter_passes (λ c. is_same_key c.key key) cs j d within in
    let same : is_same_key a.key b.key ≡ true = subst (λ (k : Key). is_same_key a.key k ≡ true)
    (sym (is_same_key-true b.key key second)) first in
    elim (bound-cases a.key b.key (is_before a.place b.place) both) [
      | inl earlier ↦ absurd (false≢true (sym (key-before_differs a.key b.key earlier) ∙ same))
      | inr there ↦ there.1
    ]

-- before the place of a change stand those before it
point-before : (ks : List Change) (k : ℕ) (e : Change) → AreInPlace ks → k < length ks
    → IsPoint (λ c. is_before c.place (get_or ks k e).place) ks k
point-before ks k e order within = (
  λ j d from to.
      let inside : j < length ks = omega (arith, to, within) in
      subst (λ (x : Change). is_before x.place (get_or ks k e).place ≡ true) (get_or_default ks j e d inside)
      (order j k e to within),
  λ j d from to.
      subst (λ (x : Change). is_before x.place (get_or ks k e).place ≡ false) (get_or_default ks j e d to)
      (elim (cases_lt k j) [
        | inl more ↦ is_before-asymmetric (get_or ks k e).place (get_or ks j e).place (order k j e more to)
        | inr upto ↦ let is : k ≡ j = omega (arith, upto, from) in subst
            (λ (i : ℕ). is_before (get_or ks i e).place (get_or ks k e).place ≡ false) is
            (is_before-irreflexive (get_or ks k e).place)
      ]),
)

-- and up to it those and itself
point-with : (ks : List Change) (k : ℕ) (e : Change) → AreInPlace ks → k < length ks
    → IsPoint (λ c. not (is_before (get_or ks k e).place c.place)) ks (suc k)
point-with ks k e order within = (
  λ j d from to.
      let inside : j < length ks = omega (arith, to, within) in
      subst (λ (x : Change). not (is_before (get_or ks k e).place x.place) ≡ true) (get_or_default ks j e d inside)
      (elim (cases_lt j k) [
        | inl less ↦ ap not (is_before-asymmetric (get_or ks j e).place (get_or ks k e).place (order j k e less within))
        | inr more ↦ let is : k ≡ j = omega (arith, more, to) in subst
            (λ (i : ℕ). not (is_before (get_or ks k e).place (get_or ks i e).place) ≡ true) is
            (ap not (is_before-irreflexive (get_or ks k e).place))
      ]),
  λ j d from to.
      subst (λ (x : Change). not (is_before (get_or ks k e).place x.place) ≡ false) (get_or_default ks j e d to)
      (ap not (order k j e (omega (arith, from)) to)),
)

-- the changes of a key are told by what is held with them and how many units came before them
pub AreTold-key : (cs : List Change) (key : Key) → AreLeaving cs
    → AreTold (held_with cs key) (units_before cs key) 0 (of_key key cs)
AreTold-key cs key leaving =
    let ks = of_key key cs in
    let order = of_key-AreInPlace cs key leaving.in_order in
    let fewer = All-filter (λ c. is_same_key c.key key) IsFewer cs leaving.fewer in
    record {
      with = λ k e l.
          let up_to : Change → Bool = λ c. not (is_before (get_or ks k e).place c.place) in
          let those = ap (sum_by moved_units) (take-point up_to ks (suc k) (point-with ks k e order l)) in
          total-leaving (filter up_to ks) (All-filter up_to IsFewer ks fewer)
          ∙ ap (λ (n : ℕ). neg_ℤ (pos n)) (omega (arith, those));
      so_far = λ k e l.
          let earlier : Change → Bool = λ c. is_before c.place (get_or ks k e).place in
          let those = ap (sum_by moved_units) (take-point earlier ks k (point-before ks k e order l)) in
          omega (arith, those);
    }

-- the layer of a unit is that of the first lack
pub layer_at-lack : (cs : List Change) (key : Key) (unit : ℕ) → AreLeaving cs
    → layer_at cs key unit ≡ option_map (layer_by (units_before cs key) unit) (first_lack cs key None None (pos unit))
layer_at-lack cs key unit leaving =
    layer_from-find (held_with cs key) (units_before cs key) (of_key key cs) 0 unit (AreTold-key cs key leaving)

-- a list of changes moved at most 2^30 units for each
sum_by-few : (p : Change → Bool) (cs : List Change) → sum_by moved_units (filter p cs) ≤ length cs * 2 ^ 30
sum_by-few p [] = omega arith
sum_by-few p (c ∷ cs) =
    let rest = sum_by-few p cs in
    let parts = sum_by-cons moved_units c (filter p cs) in
    let own : unsigned_abs c.units ≤ MAX_QUANTITY = c.quantity.1 in
    by_cases (p c) rest parts own
  where
    by_cases : (b : Bool) → sum_by moved_units (filter p cs) ≤ length cs * 2 ^ 30
        → sum_by moved_units (c ∷ filter p cs) ≡ moved_units c + sum_by moved_units (filter p cs)
        → unsigned_abs c.units ≤ MAX_QUANTITY
        → sum_by moved_units (cond b (c ∷ filter p cs) (filter p cs)) ≤ length (c ∷ cs) * 2 ^ 30
    by_cases true rest parts own = omega (arith, rest, parts, own)
    by_cases false rest parts own = omega (arith, rest)

-- so a key has few units
pub units_of_key-few : (cs : List Change) (key : Key) → AreLeaving cs → units_of_key cs key ≤ 2 ^ 50
units_of_key-few cs key leaving =
    let all = sum_by-few (λ c. is_same_key c.key key) cs in
    omega (arith, all, leaving.few)

-- what the first lack says
pub first_lack-bound : (cs : List Change) (key : Key) (unit : ℕ) (lack : Lack) → AreLeaving cs
    → first_lack cs key None None (pos unit) ≡ Some lack
    → (units_before cs key lack.place ≤ unit + lack.lacking.0) × (unit + lack.lacking.0 ≤ 2 ^ 50)
first_lack-bound cs key unit lack leaving found =
    let all = excess-bound (held_with cs key) (units_before cs key) (of_key key cs) 0 unit (AreTold-key cs key leaving) in
    let own : IsExcess (units_before cs key) unit (0 + units_of_key cs key) lack = subst
    (λ (o : Option Lack). IfSome o (IsExcess (units_before cs key) unit (0 + units_of_key cs key))) found all in
    let few = units_of_key-few cs key leaving in
    (own.0, omega (arith, own.1, few))

-- how many units came before a place, by what is held before it
pub held_before-leaving : (cs : List Change) (key : Key) (place : Place) → AreLeaving cs
    → held_before cs key place ≡ neg_ℤ (pos (units_before cs key place))
held_before-leaving cs key place leaving =
    total-leaving (filter (λ c. is_before c.place place) (of_key key cs))
    (All-filter (λ c. is_before c.place place) IsFewer (of_key key cs)
    (All-filter (λ c. is_same_key c.key key) IsFewer cs leaving.fewer))

-- no unit has a number past all
pub layer_at-none : (cs : List Change) (key : Key) (unit : ℕ) → units_of_key cs key ≤ unit → layer_at cs key unit ≡ None
layer_at-none cs key unit upto = layer_from-none (of_key key cs) 0 unit (omega (arith, upto))

-- each other one does
pub layer_at-some : (cs : List Change) (key : Key) (unit : ℕ) → layer_at cs key unit ≡ None → units_of_key cs key ≤ unit
layer_at-some cs key unit none =
    let all = layer_from-some (of_key key cs) 0 unit (omega arith) none in
    omega (arith, all)

-- the unit of the number is among the units that are found
pub layer_at-holds : (cs : List Change) (key : Key) (unit : ℕ) → IfSome (layer_at cs key unit) (HoldsUnit unit)
layer_at-holds cs key unit = layer_from-holds (of_key key cs) 0 unit (omega arith)

-- a change more is put in
length-put_change : (cs : List Change) (c : Change) → length (put_change cs c) ≡ length cs + 1
length-put_change [] c = refl
length-put_change (d ∷ ds) c =
    let rest = length-put_change ds c in
    by_cases (precedes c d) rest
  where
    by_cases : (b : Bool) → length (put_change ds c) ≡ length ds + 1
        → length (cond b (c ∷ d ∷ ds) (d ∷ put_change ds c)) ≡ length (d ∷ ds) + 1
    by_cases true rest = omega arith
    by_cases false rest = omega (arith, rest)

-- what holds of one more and of all others holds of each
All-cons : (P : Change → Type 0) (c : Change) (cs : List Change) → P c → All P cs → All P (c ∷ cs)
All-cons P c cs own all zero d l = own
All-cons P c cs own all (suc k) d l = all k d (omega (arith, l))

All-put_change : (P : Change → Type 0) (cs : List Change) (c : Change) → All P cs → P c → All P (put_change cs c)
All-put_change P [] c all own = All-cons P c [] own all
All-put_change P (d ∷ ds) c all own =
    let first : P d = all zero d (omega arith) in
    let rest : All P ds = λ k e l. all (suc k) e (omega (arith, l)) in
    by_cases (precedes c d) (All-cons P c (d ∷ ds) own all)
    (All-cons P d (put_change ds c) first (All-put_change P ds c rest own))
  where
    by_cases : (b : Bool) → All P (c ∷ d ∷ ds) → All P (d ∷ put_change ds c)
        → All P (cond b (c ∷ d ∷ ds) (d ∷ put_change ds c))
    by_cases true before after = before
    by_cases false before after = after

-- a change of units that leave put among such changes
pub AreLeaving-put_change : (cs : List Change) (c : Change) → AreLeaving cs → length cs < 2 ^ 20 → IsFewer c
    → HasNoneAt cs c.key c.place → AreLeaving (put_change cs c)
AreLeaving-put_change cs c leaving few fewer apart =
    record {
      in_order = AreInKeyOrder-put_change cs c leaving.in_order apart;
      few = let one = length-put_change cs c in omega (arith, few, one);
      fewer = All-put_change IsFewer cs c leaving.fewer fewer;
    }

-- and taken out of them
pub AreLeaving-without_change : (cs : List Change) (key : Key) (place : Place) → AreLeaving cs
    → AreLeaving (without_change cs key place)
AreLeaving-without_change cs key place leaving =
    let others : Change → Bool = λ c. not (is_change_at key place c) in
    record {
      in_order = AllPairs-filter Before others cs leaving.in_order;
      few = omega (arith, length-filter others cs, count_by-le-length others cs, leaving.few);
      fewer = All-filter others IsFewer cs leaving.fewer;
    }

-- the change of a movement as leaving counts fewer units
pub leaving_change-IsFewer : (entry : Entry) → IsFewer (leaving_change entry)
leaving_change-IsFewer entry =
    let some : 0 < entry.qty.0 = entry.quantity.0 in
    omega (arith, ints, some)

-- of two lists, of which the one of a side lost what stood at a place, the one of that side has none there
none-beside : (enters : Bool) (key : Key) (place : Place) (ins outs new_ins new_outs : List Change)
    → new_ins ≡ cond enters (without_change ins key place) ins → new_outs ≡ cond enters outs (without_change outs key place)
    → HasNoneAt (cond enters new_ins new_outs) key place
none-beside true key place ins outs new_ins new_outs h k =
    subst (λ (l : List Change). HasNoneAt l key place) (sym h) (HasNoneAt-without_change ins key place)
none-beside false key place ins outs new_ins new_outs h k =
    subst (λ (l : List Change). HasNoneAt l key place) (sym k) (HasNoneAt-without_change outs key place)

-- where a movement's change was taken out there is none on its side
pub HasNoneAt-removed : (old new : RangesState) (e : Entry) → new.entering ≡ without_entering old.entering e
    → new.leaving ≡ without_leaving old.leaving e → HasNoneAt (changes_beside new e) (entry_key e) e.place
HasNoneAt-removed old new e entering leaving =
    none-beside (is_entering e.place.side) (entry_key e) e.place old.entering old.leaving new.entering new.leaving entering
    leaving
