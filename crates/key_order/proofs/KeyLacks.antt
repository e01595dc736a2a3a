-- The first lack of an item in a warehouse, by where a running sum over the changes in key order falls below 0.
use Rattle.std.proofs.Common.{◌≡◌, ℕ, ◌+◌, ◌^◌, ◌<◌, ◌≤◌, inl, inr, Bool, true, false, ◌&&◌, not, List, length, get_or, slice_get, take, ℤ, pos, ◌+ℤ◌, ◌-ℤ◌, ◌≤ℤ◌, ◌<ℤ◌, int_lt, unsigned_abs, Option, Some, None, refl, sym, ap, ◌∙◌, subst, arith}
use Rattle.std.specs.List.{find}
use Rattle.std.specs.Option.{option_map}
use Rattle.std.proofs.lemmas.Bool.{false≢true, cases_lt}
use Rattle.std.proofs.lemmas.Int.{ints}
use Rattle.std.proofs.lemmas.List.{get_or_default}
use Rattle.std.proofs.lemmas.Option.{slice_get-get_or}
use Rattle.stock_nums.specs.Places.{is_before}
use Rattle.stock_nums.specs.declared.entry.Key.{Key}
use Rattle.stock_nums.specs.declared.place.Place.{Place}
use Rattle.stock_nums.proofs.PlaceOrder.{is_before-irreflexive}
use Rattle.stock_model.specs.Enough.{is_same_key}
use Rattle.stock_model.specs.Sheets.{is_key_before}
use Rattle.stock_laws.proofs.Enough.{is_same_key-true, is_same_key-refl}
use Rattle.block_list.specs.Sums.{total, running, IsFirstBelow}
use Rattle.block_list.proofs.Crossings.{running-more}
use Rattle.key_order.specs.declared.change.Change.{Change}
use Rattle.key_order.specs.declared.change.Lack.{Lack}
use Rattle.key_order.specs.Changes.{change_units, of_key, held_with, is_after_start, is_before_end, lacks_within, lack_at, first_lack}
use Rattle.key_order.specs.KeyOrders.{AreInKeyOrder}
use Rattle.key_order.specs.KeyBounds.{is_before_key, is_up_to_place, is_up_to_start_of, is_before_end_of, lack_with}
use Rattle.key_order.proofs.KeyOrdering.{bound-cases, bound-same, bound-later, bound-same_fails, and-both, and-fails_first, and-fails_second, or-fails_second, either-of, is_up_to_place-back}
use Rattle.key_order.proofs.KeyPoints.{IsPoint, find-filter, find-none_at, find-first_at}
use Rattle.key_order.proofs.KeyRuns.{is_of, change_of_some, up_to-not_after, beyond-after, beyond-not_earlier, before-placed, not_before-beyond, total-points, total-take_small}

-- the changes up to one of the key are those up to its place
point-with : (cs : List Change) (key : Key) (k : ℕ) (e : Change) → AreInKeyOrder cs → k < length cs
    → is_of key (get_or cs k e) ≡ true
    → IsPoint (is_up_to_place key (get_or cs k e).place) cs (k + 1)
point-with cs key k e order within of =
    let c = get_or cs k e in
    let same : c.key ≡ key = is_same_key-true c.key key of in
    let own : is_up_to_place key c.place c ≡ true = bound-same c.key key (not (is_before c.place c.place)) same
    (ap not (is_before-irreflexive c.place)) in (
      λ j d from to.
          let inside : j < length cs = omega (arith, to, within) in
          subst (λ (x : Change). is_up_to_place key c.place x ≡ true) (get_or_default cs j e d inside)
          (elim (cases_lt j k) [
            | inl less ↦ is_up_to_place-back key c.place (get_or cs j e) c (order j k e less within) own
            | inr more ↦ let is : k ≡ j = omega (arith, more, to) in subst
                (λ (i : ℕ). is_up_to_place key c.place (get_or cs i e) ≡ true) is own
          ]),
      λ j d from to.
          let x = get_or cs j e in
          subst (λ (y : Change). is_up_to_place key c.place y ≡ false) (get_or_default cs j e d to)
          (elim (bound-cases c.key x.key (is_before c.place x.place) (order k j e (omega (arith, from)) to)) [
            | inl later ↦ bound-later x.key key (not (is_before c.place x.place))
                (subst (λ (i : Key). is_key_before i x.key ≡ true) same later)
            | inr after ↦ bound-same_fails x.key key (not (is_before c.place x.place)) (sym after.0 ∙ same) (ap not after.1)
          ]),
    )

-- what is held with a change of the key is what it and those before it count, beyond those of earlier keys
held_with-at : (cs : List Change) (key : Key) (start k : ℕ) (e : Change) → AreInKeyOrder cs
    → IsPoint (is_before_key key) cs start → k < length cs → is_of key (get_or cs k e) ≡ true
    → total change_units (take (k + 1) cs) ≡ total change_units (take start cs) +ℤ held_with cs key (get_or cs k e).place
held_with-at cs key start k e order first within of =
    total-points cs key (λ c. not (is_before (get_or cs k e).place c.place)) start (k + 1) first
    (point-with cs key k e order within of)

-- with some units more it is the running sum with the change
running-with : (cs : List Change) (key : Key) (start from k : ℕ) (e : Change) (more base : ℤ) → AreInKeyOrder cs
    → IsPoint (is_before_key key) cs start → k < length cs → is_of key (get_or cs k e) ≡ true
    → base ≡ more +ℤ (total change_units (take from cs) -ℤ total change_units (take start cs))
    → more +ℤ held_with cs key (get_or cs k e).place ≡ running change_units cs from base (k + 1)
running-with cs key start from k e more base order first within of is =
    let held = held_with-at cs key start k e order first within of in
    omega (arith, ints, held, is)

-- the test of a number below 0
int_lt-true : (z : ℤ) → z <ℤ pos 0 → int_lt z (pos 0) ≡ true
int_lt-true z below = grind (arith, ints)

int_lt-false : (z : ℤ) → pos 0 ≤ℤ z → int_lt z (pos 0) ≡ false
int_lt-false z enough = grind (arith, ints)

-- a change of the key before the end comes before it, and others are not of the key or do not
ended-within : (key : Key) (end : Option Place) (c : Change) → is_before_end_of key end c ≡ true → is_of key c ≡ true
    → is_before_end end c.place ≡ true
ended-within key None c passes of = refl
ended-within key (Some end) c passes of = before-placed key end c passes of

ended-beyond : (key : Key) (end : Option Place) (c : Change) → is_before_end_of key end c ≡ false
    → (is_of key c && is_before_end end c.place) ≡ false
ended-beyond key None c fails =
    and-fails_first (is_of key c) true (or-fails_second (is_key_before c.key key) (is_same_key c.key key) fails)
ended-beyond key (Some end) c fails = not_before-beyond key end c fails

-- a change that is not up to a place and before the end is of the key
ended-key : (key : Key) (from : Option Place) (end : Option Place) (c : Change) → is_before_end_of key end c ≡ true
    → is_up_to_start_of key from c ≡ false → is_of key c ≡ true
ended-key key from None c passes fails =
    elim (either-of (is_key_before c.key key) (is_same_key c.key key) passes) [
      | inl earlier ↦ absurd
          (false≢true (sym (beyond-not_earlier key from c fails) ∙ earlier))
      | inr of ↦ of
    ]
ended-key key from (Some end) c passes fails =
    elim (bound-cases c.key key (is_before c.place end) passes) [
      | inl earlier ↦ absurd
          (false≢true (sym (beyond-not_earlier key from c fails) ∙ earlier))
      | inr same ↦ subst (λ (k : Key). is_same_key c.key k ≡ true) same.0 (is_same_key-refl c.key)
    ]

-- of four tests, one that fails is enough
lacks-not_after : (of after ended low : Bool) → (of && after) ≡ false → (of && ((after && ended) && low)) ≡ false
lacks-not_after true after ended low h = and-fails_first (after && ended) low (and-fails_first after ended h)
lacks-not_after false after ended low h = refl

lacks-not_ended : (of after ended low : Bool) → (of && ended) ≡ false → (of && ((after && ended) && low)) ≡ false
lacks-not_ended true after ended low h = and-fails_first (after && ended) low (and-fails_second after ended h)
lacks-not_ended false after ended low h = refl

lacks-enough : (of after ended low : Bool) → low ≡ false → (of && ((after && ended) && low)) ≡ false
lacks-enough of after ended low h = and-fails_second of ((after && ended) && low) (and-fails_second (after && ended) low h)

-- where the running sum first falls below 0, if it does
module _ (cs : List Change) (key : Key) (from : Option Place) (end : Option Place) (more : ℤ) (start index last : ℕ)
    (order : AreInKeyOrder cs) (first : IsPoint (is_before_key key) cs start)
    (after : IsPoint (is_up_to_start_of key from) cs index) (ended : IsPoint (is_before_end_of key end) cs last)
    (within : last ≤ length cs) where
  -- the change is of the key and lacks
  abbrev lacks : Change → Bool
  lacks c = is_of key c && lacks_within cs key from end more c

  -- what does not come after the place does not
  lacks-before : (k : ℕ) (d : Change) → k < index → lacks (get_or cs k d) ≡ false
  lacks-before k d less =
      let c = get_or cs k d in
      lacks-not_after (is_of key c) (is_after_start from c.place) (is_before_end end c.place)
      (int_lt (more +ℤ held_with cs key c.place) (pos 0)) (up_to-not_after key from c (after.0 k d (omega arith) less))

  -- neither does what does not come before the end
  lacks-beyond : (k : ℕ) (d : Change) → last ≤ k → k < length cs → lacks (get_or cs k d) ≡ false
  lacks-beyond k d far l =
      let c = get_or cs k d in
      lacks-not_ended (is_of key c) (is_after_start from c.place) (is_before_end end c.place)
      (int_lt (more +ℤ held_with cs key c.place) (pos 0)) (ended-beyond key end c (ended.1 k d far l))

  -- nor one with which the running sum is not below 0
  lacks-passed : (base : ℤ) → base ≡ more +ℤ (total change_units (take index cs) -ℤ total change_units (take start cs))
      → (k : ℕ) (d : Change) → index ≤ k → k < last
      → pos 0 ≤ℤ running change_units cs index base (k + 1) → lacks (get_or cs k d) ≡ false
  lacks-passed base is k d far near enough =
      let c = get_or cs k d in
      let l : k < length cs = omega (arith, near, within) in
      let of : is_of key c ≡ true = ended-key key from end c (ended.0 k d (omega arith) near) (after.1 k d far l) in
      lacks-enough (is_of key c) (is_after_start from c.place) (is_before_end end c.place)
      (int_lt (more +ℤ held_with cs key c.place) (pos 0))
      (int_lt-false (more +ℤ held_with cs key c.place)
      (subst (λ (z : ℤ). pos 0 ≤ℤ z) (sym (running-with cs key start index k d more base order first l of is)) enough))

  -- but one with which it is does
  lacks-crossed : (base : ℤ) → base ≡ more +ℤ (total change_units (take index cs) -ℤ total change_units (take start cs))
      → (k : ℕ) (d : Change) → index ≤ k → k < last
      → running change_units cs index base (k + 1) <ℤ pos 0 → lacks (get_or cs k d) ≡ true
  lacks-crossed base is k d far near below =
      let c = get_or cs k d in
      let l : k < length cs = omega (arith, near, within) in
      let of : is_of key c ≡ true = ended-key key from end c (ended.0 k d (omega arith) near) (after.1 k d far l) in
      and-both (is_of key c) (lacks_within cs key from end more c) of
      (and-both (is_after_start from c.place && is_before_end end c.place) (int_lt (more +ℤ held_with cs key c.place) (pos 0))
      (and-both (is_after_start from c.place) (is_before_end end c.place) (beyond-after key from c (after.1 k d far l) of)
      (ended-within key end c (ended.0 k d (omega arith) near) of))
      (int_lt-true (more +ℤ held_with cs key c.place)
      (subst (λ (z : ℤ). z <ℤ pos 0) (sym (running-with cs key start index k d more base order first l of is)) below)))

  -- there is none where the end does not come after the place
  pub first_lack-empty : last ≤ index → None ≡ first_lack cs key from end more
  first_lack-empty none =
      ap (option_map (lack_at cs key more))
      (sym (find-filter (is_of key) (lacks_within cs key from end more) cs
      ∙ find-none_at lacks cs
      (λ k d l. elim (cases_lt k index) [
        | inl less ↦ lacks-before k d less
        | inr far ↦ lacks-beyond k d (omega (arith, none, far)) l
      ])))

  -- there is none where the running sum comes to the end
  pub first_lack-none : (base : ℤ) → base ≡ more +ℤ (total change_units (take index cs) -ℤ total change_units (take start cs))
      → (at : ℕ) (before : ℤ)
      → IsFirstBelow change_units cs index last base at before → last ≤ at → None ≡ first_lack cs key from end more
  first_lack-none base is at before below all =
      ap (option_map (lack_at cs key more))
      (sym (find-filter (is_of key) (lacks_within cs key from end more) cs
      ∙ find-none_at lacks cs
      (λ k d l. elim (cases_lt k index) [
        | inl less ↦ lacks-before k d less
        | inr far ↦ elim (cases_lt k last) [
          | inl near ↦ lacks-passed base is k d far near (below.enough (k + 1) (omega (arith, far)) (omega (arith, near, all)))
          | inr beyond ↦ lacks-beyond k d beyond l
        ]
      ])))

  -- else it is where the running sum falls below 0, by what is then wanting
  pub first_lack-some : (base : ℤ) → base ≡ more +ℤ (total change_units (take index cs) -ℤ total change_units (take start cs))
      → (at : ℕ) (before : ℤ)
      → IsFirstBelow change_units cs index last base at before → at < last
      → option_map (lack_with before) (slice_get cs at) ≡ first_lack cs key from end more
  first_lack-some base is at before below near =
      let l : at < length cs = omega (arith, near, within) in
      let e = change_of_some cs at l in
      let c = get_or cs at e in
      let of : is_of key c ≡ true = ended-key key from end c (ended.0 at e (omega arith) near) (after.1 at e below.after l) in
      let read : c ≡ get_or cs at c = get_or_default cs at e c l in
      let sum : before +ℤ change_units c ≡ more +ℤ held_with cs key c.place =
      running-more change_units cs index at base before c l read below.is
      ∙ sym (running-with cs key start index at e more base order first l of is) in
      let found : find (lacks_within cs key from end more) (of_key key cs) ≡ Some c = find-filter (is_of key)
      (lacks_within cs key from end more) cs
      ∙ find-first_at lacks cs at e l
      (λ k d less. elim (cases_lt k index) [
        | inl early ↦ lacks-before k d early
        | inr far ↦ lacks-passed base is k d far (omega (arith, less, near))
            (below.enough (k + 1) (omega (arith, far)) (omega (arith, less)))
      ])
      (lacks-crossed base is at e below.after near (below.crossed near)) in
      let lack_of : ℤ → Lack = λ z. record { place = c.place; lacking = record { 0 = unsigned_abs z } } in
      ap (option_map (lack_with before)) (slice_get-get_or cs at e l)
      ∙ ap (λ (z : ℤ). Some (lack_of z)) sum
      ∙ ap (option_map (lack_at cs key more)) (sym found)

-- a running sum over at most 2^20 changes is bounded
pub running-bound : (cs : List Change) (from at : ℕ) (base before : ℤ) → length cs ≤ 2 ^ 20 → unsigned_abs base ≤ 2 ^ 54
    → before ≡ running change_units cs from base at → unsigned_abs before ≤ 2 ^ 60
running-bound cs from at base before few bound is =
    let one = total-take_small cs from few in
    let other = total-take_small cs at few in
    omega (arith, ints, is, bound, one, other)
