-- The change of an item in a warehouse at a place, in key order: what is put in and taken out there.
use Rattle.std.proofs.Common.{◌≡◌, ℕ, zero, suc, ◌<◌, ◌≤◌, inl, inr, Bool, true, false, cond, not, List, [], ◌∷◌, length, get_or, slice_get, remove, insert, pos, Option, refl, sym, ap, ◌∙◌, subst, arith}
use Rattle.std.proofs.lemmas.Bool.{false≢true, cases_lt}
use Rattle.std.proofs.lemmas.List.{get_or_default}
use Rattle.std.proofs.lemmas.List.Elements.{filter_passes}
use Rattle.std.proofs.lemmas.Option.{slice_get-get_or, slice_get_past}
use Rattle.stock_nums.specs.Places.{is_before}
use Rattle.stock_nums.specs.declared.entry.Key.{Key}
use Rattle.stock_nums.specs.declared.place.Place.{Place}
use Rattle.stock_model.specs.Enough.{is_same_key}
use Rattle.stock_laws.proofs.Enough.{is_same_key-true, is_same_key-refl}
use Rattle.stock_model.proofs.Pairwise.{Precedes, Pairwise, Pairwise-from_AllPairs, AllPairs-from_Pairwise}
use Rattle.key_order.specs.SamePlace.{is_same_place}
use Rattle.key_order.specs.declared.change.Change.{Change}
use Rattle.key_order.specs.KeyOrders.{precedes, AreInKeyOrder, is_change_at, HasNoneAt, put_change, without_change}
use Rattle.key_order.specs.KeyBounds.{is_before_place, is_some_at}
use Rattle.key_order.proofs.SamePlaces.{is_same_place-true, is_same_place-refl, is_same_place-before, is_same_place-after}
use Rattle.key_order.proofs.KeyOrdering.{Before, not-true, and-both, and-fails_first, and-fails_second, and-first, and-second, bound-cases, key-before_differs, key-after_differs, precedes-transitive, precedes-asymmetric, precedes-other}
use Rattle.key_order.proofs.KeyPoints.{IsPoint, filter-all_at, filter-but_one}

-- a change of a key at a place
abbrev pub change_at : Key → Place → Change
change_at key place = record { key = key; place = place; units = pos 1; quantity = (omega arith, omega arith) }

-- a change that comes before is not there
not_at-before : (key : Key) (place : Place) (c : Change) → precedes c (change_at key place) ≡ true
    → is_change_at key place c ≡ false
not_at-before key place c before =
    elim (bound-cases c.key key (is_before c.place place) before) [
      | inl earlier ↦ and-fails_first (is_same_key c.key key) (is_same_place c.place place) (key-before_differs c.key key earlier)
      | inr same ↦ and-fails_second (is_same_key c.key key) (is_same_place c.place place)
          (is_same_place-before c.place place same.1)
    ]

-- neither is one that comes after
not_at-after : (key : Key) (place : Place) (c : Change) → precedes (change_at key place) c ≡ true
    → is_change_at key place c ≡ false
not_at-after key place c after =
    elim (bound-cases key c.key (is_before place c.place) after) [
      | inl later ↦ and-fails_first (is_same_key c.key key) (is_same_place c.place place) (key-after_differs c.key key later)
      | inr same ↦ and-fails_second (is_same_key c.key key) (is_same_place c.place place)
          (is_same_place-after c.place place same.1)
    ]

-- what comes after the change that is there comes after the place
after-at : (key : Key) (place : Place) (c d : Change) → is_change_at key place c ≡ true → precedes c d ≡ true
    → precedes (change_at key place) d ≡ true
after-at key place c d at before =
    let same : c.key ≡ key = is_same_key-true c.key key (and-first (is_same_key c.key key) (is_same_place c.place place) at) in
    let there : c.place ≡ place = is_same_place-true c.place place
    (and-second (is_same_key c.key key) (is_same_place c.place place) at) in
    let moved : precedes (change_at key c.place) d ≡ true = subst
    (λ (k : Key). precedes (change_at k c.place) d ≡ true) same before in
    subst (λ (p : Place). precedes (change_at key p) d ≡ true) there moved

-- a change of the key at the place is there
at-there : (key : Key) (place : Place) (c : Change) → c.key ≡ key → c.place ≡ place → is_change_at key place c ≡ true
at-there key place c same there =
    and-both (is_same_key c.key key) (is_same_place c.place place)
    (subst (λ (k : Key). is_same_key c.key k ≡ true) same (is_same_key-refl c.key))
    (subst (λ (p : Place). is_same_place c.place p ≡ true) there (is_same_place-refl c.place))

-- it is there whatever stands for one that is missing
at-any : (cs : List Change) (n : ℕ) (e d : Change) → n < length cs → (key : Key) (place : Place)
    → is_change_at key place (get_or cs n e) ≡ true → is_change_at key place (get_or cs n d) ≡ true
at-any cs n e d within key place at = subst (λ (c : Change). is_change_at key place c ≡ true) (get_or_default cs n e d within) at

-- a change that is not there and does not come before comes after
after-other : (key : Key) (place : Place) (c : Change) → is_change_at key place c ≡ false
    → precedes c (change_at key place) ≡ false → precedes (change_at key place) c ≡ true
after-other key place c other not_before =
    precedes-other c (change_at key place) not_before
    (λ same there. false≢true (sym other ∙ at-there key place c same there))

-- one that is there is within the list
pub within-some_at : (cs : List Change) (key : Key) (place : Place) (n : ℕ) → is_some_at key place (slice_get cs n) ≡ true
    → n < length cs
within-some_at cs key place n at =
    elim (cases_lt n (length cs)) [
      | inl within ↦ within
      | inr past ↦ absurd
          (false≢true (subst (λ (o : Option Change). is_some_at key place o ≡ true) (slice_get_past cs n past) at))
    ]

-- the change that stands where the bound falls is the one that is sought
pub without_change-present : (cs : List Change) (key : Key) (place : Place) (n : ℕ) → AreInKeyOrder cs
    → IsPoint (is_before_place key place) cs n → n < length cs
    → is_some_at key place (slice_get cs n) ≡ true → without_change cs key place ≡ remove cs n
without_change-present cs key place n order point within at =
    let e = change_at key place in
    let there : is_change_at key place (get_or cs n e) ≡ true = subst (λ (o : Option Change). is_some_at key place o ≡ true)
    (slice_get-get_or cs n e within) at in
    filter-but_one (λ c. not (is_change_at key place c)) cs n e within (ap not there)
    (λ k d less. ap not (not_at-before key place (get_or cs k d) (point.0 k d (omega arith) less)))
    (λ k d more l. ap not
    (not_at-after key place (get_or cs k d)
    (after-at key place (get_or cs n d) (get_or cs k d) (at-any cs n e d within key place there) (order n k d more l))))

-- where it is not, there is none
pub without_change-absent : (cs : List Change) (key : Key) (place : Place) (n : ℕ) → AreInKeyOrder cs
    → IsPoint (is_before_place key place) cs n
    → is_some_at key place (slice_get cs n) ≡ false → without_change cs key place ≡ cs
without_change-absent cs key place n order point other =
    filter-all_at (λ c. not (is_change_at key place c)) cs
    (λ k d l. ap not
    (elim (cases_lt k n) [
      | inl less ↦ not_at-before key place (get_or cs k d) (point.0 k d (omega arith) less)
      | inr more ↦
          let within : n < length cs = omega (arith, more, l) in
          let not_there : is_change_at key place (get_or cs n d) ≡ false = subst
          (λ (o : Option Change). is_some_at key place o ≡ false) (slice_get-get_or cs n d within) other in
          let after : precedes (change_at key place) (get_or cs n d) ≡ true = after-other key place (get_or cs n d) not_there
          (point.1 n d (omega arith) within) in
          elim (cases_lt n k) [
            | inl further ↦ not_at-after key place (get_or cs k d)
                (precedes-transitive (change_at key place) (get_or cs n d) (get_or cs k d) after (order n k d further l))
            | inr here ↦ let is : n ≡ k = omega (arith, more, here) in subst
                (λ (j : ℕ). is_change_at key place (get_or cs j d) ≡ false) is not_there
          ]
    ]))

-- without the change of a key at a place there is none
pub HasNoneAt-without_change : (cs : List Change) (key : Key) (place : Place)
    → HasNoneAt (without_change cs key place) key place
HasNoneAt-without_change cs key place k d l same there =
    let c = get_or (without_change cs key place) k d in
    let kept : not (is_change_at key place c) ≡ true = filter_passes (λ x. not (is_change_at key place x)) cs k d l in
    false≢true (sym (not-true (is_change_at key place c) kept) ∙ at-there key place c same there)

-- a change is put where its bound falls
pub put_change-at : (cs : List Change) (c : Change) (n : ℕ) → n ≤ length cs → HasNoneAt cs c.key c.place
    → IsPoint (is_before_place c.key c.place) cs n → put_change cs c ≡ insert cs n c
put_change-at [] c zero within apart point = refl
put_change-at [] c (suc n) within apart point = absurd (omega (arith, within))
put_change-at (d ∷ ds) c zero within apart point =
    let after : precedes c d ≡ true = precedes-other d c (point.1 zero d (omega arith) (omega arith))
    (apart zero d (omega arith)) in
    rw after refl
put_change-at (d ∷ ds) c (suc n) within apart point =
    let not_after : precedes c d ≡ false = precedes-asymmetric d c (point.0 zero d (omega arith) (omega arith)) in
    let rest = put_change-at ds c n (omega (arith, within)) (λ k e l. apart (suc k) e (omega (arith, l))) (
      λ k e from to. point.0 (suc k) e (omega arith) (omega (arith, to)),
      λ k e from to. point.1 (suc k) e (omega (arith, from))
          (omega (arith, to)),
    ) in
    rw not_after (ap (λ es. d ∷ es) rest)

-- what comes before the first of those in order comes before all
Precedes-along : (c d : Change) (ds : List Change) → Before c d → Precedes Before d ds → Precedes Before c ds
Precedes-along c d [] h k = tt
Precedes-along c d (e ∷ es) h k =
    (precedes-transitive c d e h k.0, Precedes-along c d es h k.1)

-- what comes before each of a line and before one more comes before each of the line with that one
put_change-Precedes : (x : Change) (line : List Change) (c : Change) → Precedes Before x line → Before x c
    → Precedes Before x (put_change line c)
put_change-Precedes x [] c h r = (r, tt)
put_change-Precedes x (d ∷ ds) c h r =
    elim (precedes c d) as (λ b. Precedes Before x (cond b (c ∷ d ∷ ds) (d ∷ put_change ds c))) [
      | true ↦ (r, h)
      | false ↦ (h.0, put_change-Precedes x ds c h.1 r)
    ]

-- a change put among those in order, none of them of its key at its place, leaves them in order
put_change-Pairwise : (line : List Change) (c : Change) → Pairwise Before line → HasNoneAt line c.key c.place
    → Pairwise Before (put_change line c)
put_change-Pairwise [] c h apart = (tt, tt)
put_change-Pairwise (d ∷ ds) c h apart = by_cases (precedes c d) refl
    (put_change-Pairwise ds c h.1 (λ k e l. apart (suc k) e (omega (arith, l))))
  where
    by_cases : (b : Bool) → precedes c d ≡ b → Pairwise Before (put_change ds c)
        → Pairwise Before (cond b (c ∷ d ∷ ds) (d ∷ put_change ds c))
    by_cases true is rest = ((is, Precedes-along c d ds is h.0), h)
    by_cases false is rest =
        let before : Before d c = precedes-other c d is (λ same there. apart zero d (omega arith) (sym same) (sym there)) in
        (put_change-Precedes d ds c h.0 before, rest)

-- the same of changes in key order
pub AreInKeyOrder-put_change : (cs : List Change) (c : Change) → AreInKeyOrder cs → HasNoneAt cs c.key c.place
    → AreInKeyOrder (put_change cs c)
AreInKeyOrder-put_change cs c order apart =
    AllPairs-from_Pairwise Before (put_change cs c) (put_change-Pairwise cs c (Pairwise-from_AllPairs Before cs order) apart)
