-- The changes of one item in one warehouse stand side by side in key order: the neighbours of a place among them, how many come
-- before it, and what is held before it.
use Rattle.std.proofs.Common.{◌≡◌, ℕ, zero, suc, ◌+◌, ◌*◌, ◌^◌, ◌<◌, ◌≤◌, inl, inr, Bool, true, false, cond, ◌&&◌, ◌||◌, not, List, [], ◌∷◌, length, get_or, slice_get, take, filter, reverse, ℤ, ◌+ℤ◌, ◌-ℤ◌, unsigned_abs, Option, Some, None, refl, sym, ap, ◌∙◌, subst, arith, to_z, of_z, to_z-of_z, w64}
use Rattle.std.specs.List.{find}
use Rattle.std.specs.Option.{option_map}
use Rattle.std.proofs.lemmas.Bool.{false≢true, cases_lt}
use Rattle.std.proofs.lemmas.Int.{ints, fits_signed_from_abs}
use Rattle.std.proofs.lemmas.List.{get_or_default}
use Rattle.std.proofs.lemmas.Option.{slice_get-get_or, slice_get_past}
use Rattle.stock_nums.specs.Places.{is_before}
use Rattle.stock_nums.specs.declared.entry.Key.{Key}
use Rattle.stock_nums.specs.declared.limits.TheConstants.{MAX_QUANTITY}
use Rattle.stock_nums.specs.declared.place.Place.{Place}
use Rattle.stock_model.specs.Enough.{is_same_key}
use Rattle.stock_model.specs.Sheets.{is_key_before}
use Rattle.stock_laws.proofs.Enough.{is_same_key-true, is_same_key-refl}
use Rattle.block_list.specs.Bounds.{get_before}
use Rattle.block_list.specs.Sums.{total}
use Rattle.key_order.specs.declared.change.Change.{Change}
use Rattle.key_order.specs.Changes.{change_units, of_key, change_place, is_after_start, next_change, previous_change, rank_of, held_before}
use Rattle.key_order.specs.KeyOrders.{precedes, AreInKeyOrder}
use Rattle.key_order.specs.KeyBounds.{is_before_key, is_before_place, is_up_to_start_of, place_of_key}
use Rattle.key_order.proofs.KeyOrdering.{bound-cases, bound-same, and-both, and-fails_first, and-fails_second, or-fails_first, or-fails_second, true-unless, not-true, key-before_differs, key-after_differs, key-other, key-transitive, is_before_key-back}
use Rattle.key_order.proofs.KeyPoints.{IsPoint, take-point, length-point, length-filter-either, total-filter-either, find-filter, find-none_at, find-first_at, find_last-none_at, find_last-at}
use Rattle.key_order.proofs.KeyPlaces.{change_at}

-- the change is of the key
abbrev pub is_of : Key → Change → Bool
is_of key c = is_same_key c.key key

-- a change of those that are there
pub change_of_some : (cs : List Change) (n : ℕ) → n < length cs → Change
change_of_some [] n within = absurd (omega (arith, within))
change_of_some (c ∷ cs) n within = c

-- a change up to a start does not follow it
pub up_to-not_after : (key : Key) (from : Option Place) (c : Change) → is_up_to_start_of key from c ≡ true
    → (is_of key c && is_after_start from c.place) ≡ false
up_to-not_after key None c passes = and-fails_first (is_of key c) true (key-before_differs c.key key passes)
up_to-not_after key (Some place) c passes =
    elim (bound-cases c.key key (not (is_before place c.place)) passes) [
      | inl earlier ↦ and-fails_first (is_same_key c.key key) (is_before place c.place) (key-before_differs c.key key earlier)
      | inr same ↦ and-fails_second (is_same_key c.key key) (is_before place c.place) (not-true (is_before place c.place) same.1)
    ]

-- a change of the key that is not up to a start follows it
pub beyond-after : (key : Key) (from : Option Place) (c : Change) → is_up_to_start_of key from c ≡ false → is_of key c ≡ true
    → is_after_start from c.place ≡ true
beyond-after key None c fails of = refl
beyond-after key (Some place) c fails of =
    true-unless (is_before place c.place)
    (λ not_after. false≢true
    (sym fails ∙ bound-same c.key key (not (is_before place c.place)) (is_same_key-true c.key key of) (ap not not_after)))

-- a change that is not up to a start of the key is of no earlier key
pub beyond-not_earlier : (key : Key) (from : Option Place) (c : Change) → is_up_to_start_of key from c ≡ false
    → is_key_before c.key key ≡ false
beyond-not_earlier key None c fails = fails
beyond-not_earlier key (Some place) c fails =
    or-fails_first (is_key_before c.key key) (is_same_key c.key key && not (is_before place c.place)) fails

-- where it is of another key that is a later one
pub beyond-later : (key : Key) (from : Option Place) (c : Change) → is_up_to_start_of key from c ≡ false
    → is_of key c ≡ false → is_key_before key c.key ≡ true
beyond-later key from c fails other = key-other c.key key other (beyond-not_earlier key from c fails)

-- after a change of a later key come only such
pub later-on : (key : Key) (c d : Change) → is_key_before key c.key ≡ true → precedes c d ≡ true → is_key_before key d.key ≡ true
later-on key c d later before =
    elim (bound-cases c.key d.key (is_before c.place d.place) before) [
      | inl k ↦ key-transitive key c.key d.key later k
      | inr same ↦ subst (λ (k : Key). is_key_before key k ≡ true) same.0 later
    ]

-- a change before a place of the key that is of another key is of an earlier one
pub before-earlier : (key : Key) (c : Change) (r : Bool) → (is_key_before c.key key || (is_same_key c.key key && r)) ≡ true
    → is_of key c ≡ false → is_key_before c.key key ≡ true
before-earlier key c r passes other =
    elim (bound-cases c.key key r passes) [
      | inl k ↦ k
      | inr same ↦ absurd
          (false≢true (sym other ∙ subst (λ (k : Key). is_same_key c.key k ≡ true) same.0 (is_same_key-refl c.key)))
    ]

-- a change before a place of the key that is of the key comes before the place
pub before-placed : (key : Key) (place : Place) (c : Change) → is_before_place key place c ≡ true → is_of key c ≡ true
    → is_before c.place place ≡ true
before-placed key place c passes of =
    elim (bound-cases c.key key (is_before c.place place) passes) [
      | inl k ↦ absurd (false≢true (sym (key-before_differs c.key key k) ∙ of))
      | inr same ↦ same.1
    ]

-- a change of the key that is not before a place does not precede it
pub not_before-beyond : (key : Key) (place : Place) (c : Change) → is_before_place key place c ≡ false
    → (is_of key c && is_before c.place place) ≡ false
not_before-beyond key place c fails = or-fails_second (is_key_before c.key key)
    (is_same_key c.key key && is_before c.place place) fails

-- from where the bound falls on, none is of the key where the first is not
none-on : (cs : List Change) (key : Key) (start : Option Place) (n : ℕ) (e : Change) → AreInKeyOrder cs
    → IsPoint (is_up_to_start_of key start) cs n → n < length cs
    → is_of key (get_or cs n e) ≡ false → (k : ℕ) (d : Change) → n ≤ k → k < length cs
    → is_of key (get_or cs k d) ≡ false
none-on cs key start n e order point within other k d from to =
    let c = get_or cs n e in
    let later : is_key_before key c.key ≡ true = beyond-later key start c (point.1 n e (omega arith) within) other in
    let same_default : get_or cs k e ≡ get_or cs k d = get_or_default cs k e d to in
    subst (λ (x : Change). is_of key x ≡ false) same_default
    (elim (cases_lt n k) [
      | inl more ↦ key-after_differs (get_or cs k e).key key (later-on key c (get_or cs k e) later (order n k e more to))
      | inr here ↦ let is : n ≡ k = omega (arith, from, here) in subst (λ (j : ℕ). is_of key (get_or cs j e) ≡ false) is other
    ])

-- the change that stands where the bound falls, or none
found-next : (cs : List Change) (key : Key) (start : Option Place) (n : ℕ) (e : Change) → AreInKeyOrder cs
    → IsPoint (is_up_to_start_of key start) cs n → n < length cs
    → find (λ c. is_after_start start c.place) (of_key key cs) ≡ cond (is_of key (get_or cs n e)) (Some (get_or cs n e)) None
found-next cs key start n e order point within = by_cases (is_of key c) refl
  where
    c : Change
    c = get_or cs n e

    by_cases : (b : Bool) → is_of key c ≡ b
        → find (λ c. is_after_start start c.place) (of_key key cs) ≡ cond b (Some c) None
    by_cases true of =
        find-filter (is_of key) (λ c. is_after_start start c.place) cs
        ∙ find-first_at (λ c. is_of key c && is_after_start start c.place) cs n e within
        (λ k d less. up_to-not_after key start (get_or cs k d) (point.0 k d (omega arith) less))
        (and-both (is_of key c) (is_after_start start c.place) of
        (beyond-after key start c (point.1 n e (omega arith) within) of))
    by_cases false other =
        find-filter (is_of key) (λ c. is_after_start start c.place) cs
        ∙ find-none_at (λ c. is_of key c && is_after_start start c.place) cs
        (λ k d l. elim (cases_lt k n) [
          | inl less ↦ up_to-not_after key start (get_or cs k d) (point.0 k d (omega arith) less)
          | inr more ↦ and-fails_first (is_of key (get_or cs k d)) (is_after_start start (get_or cs k d).place)
              (none-on cs key start n e order point within other k d more l)
        ])

-- the place of what was found, if it is of the key
place_of_key-some : (key : Key) (c : Change)
    → option_map change_place (cond (is_of key c) (Some c) None) ≡ place_of_key key (Some c)
place_of_key-some key c = by_cases (is_of key c)
  where
    by_cases : (b : Bool) → option_map change_place (cond b (Some c) None) ≡ cond b (Some c.place) None
    by_cases true = refl
    by_cases false = refl

-- the next place is that of the change where the bound up to the start falls, if it is of the key
pub next_change-at : (cs : List Change) (key : Key) (start : Option Place) (n : ℕ) → AreInKeyOrder cs
    → IsPoint (is_up_to_start_of key start) cs n
    → place_of_key key (slice_get cs n) ≡ next_change cs key start
next_change-at cs key start n order point =
    elim (cases_lt n (length cs)) [
      | inl within ↦
          let e = change_of_some cs n within in
          ap (place_of_key key) (slice_get-get_or cs n e within) ∙ sym (place_of_key-some key (get_or cs n e))
          ∙ ap (option_map change_place) (sym (found-next cs key start n e order point within))
      | inr past ↦
          let none : find (λ c. is_after_start start c.place) (of_key key cs) ≡ None =
          find-filter (is_of key) (λ c. is_after_start start c.place) cs
          ∙ find-none_at (λ c. is_of key c && is_after_start start c.place) cs
          (λ k d l. up_to-not_after key start (get_or cs k d) (point.0 k d (omega arith) (omega (arith, past, l)))) in
          ap (place_of_key key) (slice_get_past cs n past) ∙ ap (option_map change_place) (sym none)
    ]

-- up to the last before the bound, none is of the key where that is not
none-so_far : (cs : List Change) (key : Key) (place : Place) (n : ℕ) → AreInKeyOrder cs
    → is_before_place key place (get_or cs n (change_at key place)) ≡ true → n < length cs
    → is_of key (get_or cs n (change_at key place)) ≡ false → (k : ℕ) (d : Change) → k ≤ n → is_of key (get_or cs k d) ≡ false
none-so_far cs key place n order passes within other k d upto =
    let e = change_at key place in
    let c = get_or cs n e in
    let earlier : is_key_before c.key key ≡ true = before-earlier key c (is_before c.place place) passes other in
    let same_default : get_or cs k e ≡ get_or cs k d = get_or_default cs k e d (omega (arith, upto, within)) in
    subst (λ (x : Change). is_of key x ≡ false) same_default
    (elim (cases_lt k n) [
      | inl less ↦ key-before_differs (get_or cs k e).key key
          (is_before_key-back key (get_or cs k e) c (order k n e less within) earlier)
      | inr here ↦ let is : n ≡ k = omega (arith, upto, here) in subst (λ (j : ℕ). is_of key (get_or cs j e) ≡ false) is other
    ])

-- the change that stands before where the bound falls, or none
found-previous : (cs : List Change) (key : Key) (place : Place) (n : ℕ) → AreInKeyOrder cs
    → IsPoint (is_before_place key place) cs (n + 1) → n < length cs
    → find (λ c. is_before c.place place) (reverse (of_key key cs)) ≡ cond (is_of key (get_or cs n (change_at key place)))
    (Some (get_or cs n (change_at key place))) None
found-previous cs key place n order point within = by_cases (is_of key c) refl
  where
    e : Change
    e = change_at key place

    c : Change
    c = get_or cs n e

    passes : is_before_place key place c ≡ true
    passes = point.0 n e (omega arith) (omega arith)

    by_cases : (b : Bool) → is_of key c ≡ b → find (λ c. is_before c.place place) (reverse (of_key key cs)) ≡ cond b (Some c) None
    by_cases true of =
        find_last-at (is_of key) (λ c. is_before c.place place) cs n e within
        (λ k d more l. not_before-beyond key place (get_or cs k d) (point.1 k d (omega (arith, more)) l))
        of (before-placed key place c passes of)
    by_cases false other =
        find_last-none_at (is_of key) (λ c. is_before c.place place) cs
        (λ k d l. elim (cases_lt n k) [
          | inl more ↦ not_before-beyond key place (get_or cs k d) (point.1 k d (omega (arith, more)) l)
          | inr upto ↦ and-fails_first (is_of key (get_or cs k d)) (is_before (get_or cs k d).place place)
              (none-so_far cs key place n order passes within other k d upto)
        ])

-- the previous place is that of the change before where the bound before the place falls, if it is of the key
pub previous_change-at : (cs : List Change) (key : Key) (place : Place) (n m : ℕ) → m + 1 ≡ n → n ≤ length cs → AreInKeyOrder cs
    → IsPoint (is_before_place key place) cs n
    → place_of_key key (slice_get cs m) ≡ previous_change cs key place
previous_change-at cs key place n m next within order point =
    let e = change_at key place in
    let inside : m < length cs = omega (arith, next, within) in
    let here = subst (λ (k : ℕ). IsPoint (is_before_place key place) cs k) (sym next) point in
    ap (place_of_key key) (slice_get-get_or cs m e inside) ∙ sym (place_of_key-some key (get_or cs m e))
    ∙ ap (option_map change_place) (sym (found-previous cs key place m order here inside))

-- there is none where the bound falls at the start
pub previous_change-none : (cs : List Change) (key : Key) (place : Place) (n : ℕ) → n ≡ 0
    → IsPoint (is_before_place key place) cs n → None ≡ previous_change cs key place
previous_change-none cs key place n start point =
    ap (option_map change_place)
    (sym (find_last-none_at (is_of key) (λ c. is_before c.place place) cs
    (λ k d l. not_before-beyond key place (get_or cs k d) (point.1 k d (omega (arith, start)) l))))

-- both at once: the place of the change before the bound, if there is one and it is of the key
pub previous_change-before : (cs : List Change) (key : Key) (place : Place) (n : ℕ) → n ≤ length cs → AreInKeyOrder cs
    → IsPoint (is_before_place key place) cs n
    → place_of_key key (get_before cs n) ≡ previous_change cs key place
previous_change-before cs key place zero within order point = previous_change-none cs key place zero refl point
previous_change-before cs key place (suc m) within order point =
    let next : m + 1 ≡ suc m = omega arith in
    previous_change-at cs key place (suc m) m next within order point

-- changes of earlier keys are not of the key
pub earlier-apart : (key : Key) (c : Change) → is_before_key key c ≡ true → is_of key c ≡ false
earlier-apart key c earlier = key-before_differs c.key key earlier

-- how many come before the place
pub rank_of-points : (cs : List Change) (key : Key) (place : Place) (start end : ℕ) → start ≤ length cs → end ≤ length cs
    → IsPoint (is_before_key key) cs start → IsPoint (is_before_place key place) cs end
    → end ≡ start + rank_of cs key place
rank_of-points cs key place start end start_in end_in first last =
    let starts = length-point (is_before_key key) cs start start_in first in
    let ends = length-point (is_before_place key place) cs end end_in last in
    let both = length-filter-either (is_before_key key) (is_of key) (λ c. is_before c.place place) (earlier-apart key) cs in
    omega (arith, starts, ends, both)

-- what those up to where a bound falls count, beyond those of earlier keys
pub total-points : (cs : List Change) (key : Key) (q : Change → Bool) (start end : ℕ) → IsPoint (is_before_key key) cs start
    → IsPoint (λ c. is_key_before c.key key || (is_same_key c.key key && q c)) cs end
    → total change_units (take end cs) ≡ total change_units (take start cs) +ℤ total change_units (filter q (of_key key cs))
total-points cs key q start end first last =
    ap (total change_units) (take-point (λ c. is_key_before c.key key || (is_same_key c.key key && q c)) cs end last)
    ∙ total-filter-either change_units (is_before_key key) (is_of key) q (earlier-apart key) cs
    ∙ ap (λ (z : ℤ). z +ℤ total change_units (filter q (of_key key cs)))
    (ap (total change_units) (sym (take-point (is_before_key key) cs start first)))

-- what is held before the place
pub held_before-points : (cs : List Change) (key : Key) (place : Place) (start end : ℕ) → IsPoint (is_before_key key) cs start
    → IsPoint (is_before_place key place) cs end
    → (total change_units (take end cs) -ℤ total change_units (take start cs)) ≡ held_before cs key place
held_before-points cs key place start end first last =
    let both = total-points cs key (λ c. is_before c.place place) start end first last in
    omega (arith, ints, both)

-- what a front of changes counts is bounded by how many they are
pub total-take_bound : (cs : List Change) (n : ℕ) → unsigned_abs (total change_units (take n cs)) ≤ length cs * 2 ^ 30
total-take_bound [] zero = omega (arith, ints)
total-take_bound [] (suc n) = omega (arith, ints)
total-take_bound (c ∷ cs) zero = omega (arith, ints)
total-take_bound (c ∷ cs) (suc n) =
    let rest = total-take_bound cs n in
    let own : unsigned_abs c.units ≤ MAX_QUANTITY = c.quantity.1 in
    omega (arith, ints, rest, own)

-- of at most 2^20 changes
pub total-take_small : (cs : List Change) (n : ℕ) → length cs ≤ 2 ^ 20 → unsigned_abs (total change_units (take n cs)) ≤ 2 ^ 50
total-take_small cs n few = let all = total-take_bound cs n in omega (arith, few, all)

-- a number of units that is small stays what it is as a machine's
pub small-kept : (z : ℤ) → unsigned_abs z ≤ 2 ^ 60 → to_z w64 (of_z w64 z) ≡ z
small-kept z small = to_z-of_z {w = w64} {z = z} (fits_signed_from_abs w64 z (omega (arith, small)))
