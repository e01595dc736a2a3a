-- What is held by movements, in whatever order they stand.
use Rattle.std.proofs.Common.{◌≡◌, ◌<◌, ◌≤◌, ◌^◌, ℕ, ℤ, pos, ◌-ℤ◌, unsigned_abs, Bool, List, [], ◌∷◌, filter, sum_by, Some, None, refl, sym, ap, ◌∙◌, arith}
use Rattle.std.specs.List.Sorted.{IsPermutation}
use Rattle.std.specs.Option.{option_map_or}
use Rattle.std.proofs.lemmas.Int.{ints}
use Rattle.std.proofs.lemmas.List.Sorted.{sum_by-IsPermutation}
use Rattle.std.proofs.lemmas.List.Sums.{sum_by-cons}
use Rattle.stock_nums.specs.declared.entry.Entry.{Entry}
use Rattle.stock_nums.specs.declared.entry.Key.{Key}
use Rattle.stock_nums.specs.declared.moment.Moment.{Moment}
use Rattle.stock_model.specs.declared.records.Record.{Record}
use Rattle.stock_model.specs.Enough.{entry_units, enters_under, leaves_under, entered, departed}
use Rattle.stock_model.specs.Entries.{all_entries}
use Rattle.stock_model.specs.PostingOrder.{posting_line}
use Rattle.stock_laws.proofs.PostingLine.{IsPermutation-posting_line}
use Rattle.stock_laws.proofs.TestedSums.{counted, tested-cons}
use Rattle.stock_count.specs.Held.{is_until, held_of, held_until, held, key_with}
use Rattle.stock_count.specs.Sides.{held_among}

-- what a movement adds to those that pass a test, if it is not after the moment
abbrev pub units_moved : Moment → (Entry → Bool) → Entry → ℕ
units_moved at p e = counted (is_until at e) (counted (p e) (entry_units e))

sum-tested : {X : Type 0} (f : X → ℕ) (p : X → Bool) (xs : List X) → sum_by f (filter p xs) ≡ sum_by (λ x. counted (p x) (f x)) xs
sum-tested f p [] = refl
sum-tested f p (x ∷ xs) =
    omega (arith, tested-cons f p x xs, sum_by-cons (λ y. counted (p y) (f y)) x xs, sum-tested f p xs)

pub sum-units_moved : (at : Moment) (p : Entry → Bool) (es : List Entry) → sum_by entry_units (filter p (filter (is_until at) es)) ≡ sum_by (units_moved at p) es
sum-units_moved at p es =
    sum-tested entry_units p (filter (is_until at) es) ∙ sum-tested (λ e. counted (p e) (entry_units e)) (is_until at) es

units-IsPermutation : (at : Moment) (p : Entry → Bool) (xs ys : List Entry) → IsPermutation xs ys
    → sum_by entry_units (filter p (filter (is_until at) ys)) ≡ sum_by entry_units (filter p (filter (is_until at) xs))
units-IsPermutation at p xs ys same =
    sum-units_moved at p ys ∙ sum_by-IsPermutation (units_moved at p) xs ys same ∙ sym (sum-units_moved at p xs)

held_of-IsPermutation : (at : Moment) (key : Key) (xs ys : List Entry) → IsPermutation xs ys
    → held_of (filter (is_until at) ys) key ≡ held_of (filter (is_until at) xs) key
held_of-IsPermutation at key xs ys same =
    ap (λ (n : ℕ). pos n -ℤ pos (departed (filter (is_until at) ys) key)) (units-IsPermutation at (enters_under key) xs ys same)
    ∙ ap (λ (n : ℕ). pos (entered (filter (is_until at) xs) key) -ℤ pos n) (units-IsPermutation at (leaves_under key) xs ys same)

-- so it makes no difference that movements are taken in the order of their records
pub held_until-any_order : (journal : List Record) (at : Moment) (key : Key) → held_until journal at key ≡ held_of (filter (is_until at) (all_entries journal)) key
held_until-any_order journal at key =
    held_of-IsPermutation at key (all_entries journal) (posting_line journal) (IsPermutation-posting_line journal)

pub held-any_order : (journal : List Record) (item store : List ℕ) (at : Moment)
    → held journal item store at ≡ held_among journal (filter (is_until at) (all_entries journal)) item store
held-any_order journal item store at =
    elim (key_with journal item store) as (λ o. option_map_or (held_until journal at) o (pos 0) ≡ option_map_or (held_of (filter (is_until at) (all_entries journal))) o (pos 0)) [
      | None ↦ refl
      | Some key ↦ held_until-any_order journal at key
    ]

-- what was counted less what was held is a number of 128 bits
pub difference-small : (n : ℕ) (z : ℤ) → n ≤ 1_000_000_000 → unsigned_abs z ≤ 2 ^ 94 → unsigned_abs (pos n -ℤ z) < 2 ^ 127
difference-small n z h k = omega (arith, ints, h, k)
