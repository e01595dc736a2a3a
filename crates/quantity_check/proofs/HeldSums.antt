-- What movements change of what is held, one by one, and in a line with more of them.
use Rattle.std.proofs.Common.{◌≡◌, ℕ, ◌+◌, ◌*◌, ◌^◌, FitsSigned, w64, ◌<◌, ◌≤◌, ℤ, unsigned_abs, length, get_or, drop, pos, ◌+ℤ◌, ◌-ℤ◌, Bool, true, false, cond, ◌&&◌, not, List, [], ◌∷◌, ◌++◌, filter, sum_by, refl, ap, ◌∙◌, arith}
use Rattle.std.proofs.lemmas.Bool.{false≢true}
use Rattle.std.proofs.lemmas.Int.{ints, fits_signed_from_abs}
use Rattle.std.proofs.lemmas.List.Sums.{sum_by-append}
use Rattle.block_list.specs.Sums.{total}
use Rattle.stock_nums.specs.Causes.{is_entering}
use Rattle.stock_nums.specs.Places.{is_before}
use Rattle.stock_nums.specs.declared.entry.Entry.{Entry}
use Rattle.stock_nums.specs.declared.entry.Key.{Key}
use Rattle.stock_nums.specs.declared.place.Place.{Place}
use Rattle.stock_model.specs.Enough.{entry_key, is_same_key, is_of_key, enters_under, leaves_under, entry_units, entered, departed}
use Rattle.stock_model.specs.PostingOrder.{put, put_all}
use Rattle.stock_model.proofs.Pairwise.{Each, Each-weaker}
use Rattle.key_order.specs.Changes.{change_of, changes_of, change_units, of_key, held_before, held_with}
use Rattle.key_order.specs.Units.{signed_units}
use Rattle.key_order.specs.declared.change.Change.{Change}
use Rattle.quantity_check.specs.Stretches.{is_until_of, units_until}
use Rattle.quantity_check.proofs.OwnPlaceLemmas.{drop-next}
use Rattle.quantity_check.proofs.PlaceSteps.{before_apart}
use Rattle.stock_nums.proofs.PlaceOrder.{is_before-asymmetric}

-- a sum over those of a key that pass a test, with one more in front
total-both : (q : Change → Bool) (c : Change) (k : Bool) (rest : List Change)
    → total change_units (filter q (cond k (c ∷ rest) rest)) ≡ cond (k && q c) (change_units c) (pos 0) +ℤ total change_units (filter q rest)
total-both q c k rest =
    elim k as (λ v. total change_units (filter q (cond v (c ∷ rest) rest)) ≡ cond (v && q c) (change_units c) (pos 0) +ℤ total change_units (filter q rest)) [
      | true ↦ elim (q c) as (λ v. total change_units (cond v (c ∷ filter q rest) (filter q rest)) ≡ cond v (change_units c) (pos 0) +ℤ total change_units (filter q rest)) [
        | true ↦ refl
        | false ↦ omega (arith, ints)
      ]
      | false ↦ omega (arith, ints)
    ]

-- one more movement in front adds what it changes
pub held_with-cons : (e : Entry) (es : List Entry) (key : Key) (place : Place) → held_with (changes_of (e ∷ es)) key place ≡ units_until key place e +ℤ held_with (changes_of es) key place
held_with-cons e es key place =
    total-both (λ c. not (is_before place c.place)) (change_of e) (is_same_key (entry_key e) key) (of_key key (changes_of es))

-- movements after others add what they change
pub held_with-append : (xs ys : List Entry) (key : Key) (place : Place) → held_with (changes_of (xs ++ ys)) key place ≡ held_with (changes_of xs) key place +ℤ held_with (changes_of ys) key place
held_with-append [] ys key place = omega (arith, ints)
held_with-append (x ∷ xs) ys key place =
    omega (arith, ints, held_with-cons x (xs ++ ys) key place, held_with-cons x xs key place, held_with-append xs ys key place)

-- one more movement put into a line adds what it changes
held_with-put : (line : List Entry) (e : Entry) (key : Key) (place : Place) → held_with (changes_of (put line e)) key place ≡ units_until key place e +ℤ held_with (changes_of line) key place
held_with-put [] e key place = held_with-cons e [] key place
held_with-put (f ∷ fs) e key place =
    elim (is_before e.place f.place) as (λ b. held_with (changes_of (cond b (e ∷ f ∷ fs) (f ∷ put fs e))) key place ≡ units_until key place e +ℤ held_with (changes_of (f ∷ fs)) key place) [
      | true ↦ held_with-cons e (f ∷ fs) key place
      | false ↦ omega (arith, ints, held_with-cons f (put fs e) key place, held_with-cons f fs key place, held_with-put fs e key place)
    ]

-- and so do several
pub held_with-put_all : (line es : List Entry) (key : Key) (place : Place) → held_with (changes_of (put_all line es)) key place ≡ held_with (changes_of line) key place +ℤ held_with (changes_of es) key place
held_with-put_all line [] key place = omega (arith, ints)
held_with-put_all line (e ∷ es) key place =
    omega (arith, ints, held_with-put_all (put line e) es key place, held_with-put line e key place, held_with-cons e es key place)

-- of two places that are not one the first comes before the second exactly if the second does not come before it
before-either : (p q : Place) (b : Bool) → (p ≡ q → ⊥) → is_before q p ≡ b → is_before p q ≡ not b
before-either p q true apart is = is_before-asymmetric q p is
before-either p q false apart is = before_apart p q is apart

-- where no movement stands at the place, those before it are those that are not after it
before-apart : (key : Key) (place : Place) (fs : List Entry) → Each (λ f. f.place ≡ place → ⊥) fs
    → filter (λ c. is_before c.place place) (of_key key (changes_of fs)) ≡ filter (λ c. not (is_before place c.place)) (of_key key (changes_of fs))
before-apart key place [] h = refl
before-apart key place (f ∷ fs) h =
    let tests : is_before f.place place ≡ not (is_before place f.place) = before-either f.place place (is_before place f.place) h.0 refl in
    let rest = before-apart key place fs h.1 in
    let later = of_key key (changes_of fs) in
    let here : cond (is_before f.place place) (change_of f ∷ filter (λ c. is_before c.place place) later) (filter (λ c. is_before c.place place) later)
    ≡ cond (not (is_before place f.place)) (change_of f ∷ filter (λ c. not (is_before place c.place)) later) (filter (λ c. not (is_before place c.place)) later) = cc in
    elim (is_same_key (entry_key f) key) as (λ k. filter (λ c. is_before c.place place) (cond k (change_of f ∷ later) later) ≡ filter (λ c. not (is_before place c.place)) (cond k (change_of f ∷ later) later)) [
      | true ↦ here
      | false ↦ rest
    ]

-- what is held just before the place is what is held with it
pub held_before-apart : (es : List Entry) (key : Key) (place : Place) → Each (λ f. f.place ≡ place → ⊥) es → held_before (changes_of es) key place ≡ held_with (changes_of es) key place
held_before-apart es key place apart = ap (total change_units) (before-apart key place es apart)

-- no movement of the key stands up to the place
pub held_with-none : (es : List Entry) (key : Key) (place : Place) → Each (λ f. is_until_of key place f ≡ false) es → held_with (changes_of es) key place ≡ pos 0
held_with-none [] key place h = refl
held_with-none (e ∷ es) key place h =
    let none : units_until key place e ≡ pos 0 = ap (λ (b : Bool). cond b (change_units (change_of e)) (pos 0)) h.0 in
    omega (arith, ints, held_with-cons e es key place, none, held_with-none es key place h.1)

-- all stand after the place
pub held_with-later : (es : List Entry) (key : Key) (place : Place) → Each (λ f. is_before place f.place ≡ true) es → held_with (changes_of es) key place ≡ pos 0
held_with-later es key place h =
    held_with-none es key place (Each-weaker (λ f. is_before place f.place ≡ true) (λ f. is_until_of key place f ≡ false) (λ f is. no_more (is_of_key key f) (is_before place f.place) is) es h)
  where
    no_more : (k b : Bool) → b ≡ true → (k && not b) ≡ false
    no_more true true is = refl
    no_more false true is = refl
    no_more true false is = absurd (false≢true is)
    no_more false false is = refl

-- what movements that stand up to the place change is what enters less what leaves
units_signed : (k enters : Bool) (n : ℕ) → cond (k && true) (signed_units enters n) (pos 0) ≡ pos (cond (k && enters) n 0) -ℤ pos (cond (k && not enters) n 0)
units_signed true true n = omega (arith, ints)
units_signed true false n = omega (arith, ints)
units_signed false true n = refl
units_signed false false n = refl

sum_filtered-cons : (p : Entry → Bool) (e : Entry) (es : List Entry) → sum_by entry_units (filter p (e ∷ es)) ≡ cond (p e) e.qty.0 0 + sum_by entry_units (filter p es)
sum_filtered-cons p e es =
    elim (p e) as (λ b. sum_by entry_units (cond b (e ∷ filter p es) (filter p es)) ≡ cond b e.qty.0 0 + sum_by entry_units (filter p es)) [
      | true ↦
          let one : sum_by entry_units (e ∷ []) ≡ e.qty.0 = omega arith in
          let both : sum_by entry_units (e ∷ filter p es) ≡ sum_by entry_units (e ∷ []) + sum_by entry_units (filter p es) = sum_by-append entry_units (e ∷ []) (filter p es) in
          let all : sum_by entry_units (e ∷ filter p es) ≡ e.qty.0 + sum_by entry_units (filter p es) = omega (arith, one, both) in
          all
      | false ↦ let all : sum_by entry_units (filter p es) ≡ 0 + sum_by entry_units (filter p es) = omega arith in all
    ]

pub held_with-all : (es : List Entry) (key : Key) (place : Place) → Each (λ f. is_before place f.place ≡ false) es → held_with (changes_of es) key place ≡ pos (entered es key) -ℤ pos (departed es key)
held_with-all [] key place h = refl
held_with-all (e ∷ es) key place h =
    let until : units_until key place e ≡ cond (is_of_key key e && true) (change_units (change_of e)) (pos 0) =
    ap (λ (b : Bool). cond (is_of_key key e && not b) (change_units (change_of e)) (pos 0)) h.0 in
    let signed = units_signed (is_of_key key e) (is_entering e.place.side) e.qty.0 in
    omega (arith, ints, held_with-cons e es key place, until ∙ signed, sum_filtered-cons (enters_under key) e es, sum_filtered-cons (leaves_under key) e es, held_with-all es key place h.1)

-- a step of going over movements one by one
pub held_with-step : (es : List Entry) (i : ℕ) (e : Entry) (key : Key) (place : Place) (held all : ℤ) → i < length es → e ≡ get_or es i e
    → held +ℤ held_with (changes_of (drop i es)) key place ≡ all → (held +ℤ units_until key place e) +ℤ held_with (changes_of (drop (i + 1) es)) key place ≡ all
held_with-step es i e key place held all within is so_far =
    let next : held_with (changes_of (drop i es)) key place ≡ units_until key place e +ℤ held_with (changes_of (drop (i + 1) es)) key place =
    ap (λ (l : List Entry). held_with (changes_of l) key place) (drop-next es i e within is) ∙ held_with-cons e (drop (i + 1) es) key place in
    omega (arith, ints, next, so_far)

-- the units that it changes, at most so many in all
pub abs-step : (a b : ℤ) (i : ℕ) → unsigned_abs a ≤ i * 1_000_000_000 → unsigned_abs b ≤ 1_000_000_000 → unsigned_abs (a +ℤ b) ≤ (i + 1) * 1_000_000_000
abs-step a b i h k = omega (arith, ints, h, k)

-- so many units fit a number of 64 bits
pub fits-step : (z : ℤ) (i n : ℕ) → i < n → n ≤ 2 ^ 20 → unsigned_abs z ≤ (i + 1) * 1_000_000_000 → FitsSigned w64 z
fits-step z i n within few h = fits_signed_from_abs w64 z (omega (arith, within, few, h))
