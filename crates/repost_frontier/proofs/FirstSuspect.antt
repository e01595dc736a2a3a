-- The first suspect is where a sum of what movements count falls below nothing.
use Rattle.std.proofs.Common.{◌≡◌, ℕ, zero, suc, ◌+◌, ◌<◌, ◌≤◌, Bool, true, false, cond, ℤ, pos, ◌+ℤ◌, ◌-ℤ◌, ◌≤ℤ◌, ◌<ℤ◌, List, [], ◌∷◌, length, take, slice_get, Some, refl, subst, arith, inl, inr}
use Rattle.std.specs.List.{find}
use Rattle.std.proofs.lemmas.Bool.{cases_lt}
use Rattle.std.proofs.lemmas.Int.{ints}
use Rattle.block_list.specs.Sums.{total, IsFirstBelow}
use Rattle.repost_frontier.specs.Slots.{is_suspect, suspect_weight}
use Rattle.repost_frontier.specs.declared.slot.Slot.{Slot}

-- what one counts that is suspect, or is not
abbrev weight_by : Bool → ℤ
weight_by suspect = cond suspect (pos 0 -ℤ pos 1) (pos 0)

weight_by-most : (suspect : Bool) → weight_by suspect ≤ℤ pos 0
weight_by-most true = omega (arith, ints)
weight_by-most false = omega (arith, ints)

-- no front of movements counts more than nothing
front-most : (slots : List Slot) (n : ℕ) → total suspect_weight (take n slots) ≤ℤ pos 0
front-most [] zero = omega (arith, ints)
front-most [] (suc n) = omega (arith, ints)
front-most (s ∷ slots) zero = omega (arith, ints)
front-most (s ∷ slots) (suc n) = omega (arith, ints, weight_by-most s.is_suspect, front-most slots n)

-- where the sum is not below nothing up to an index, and with the movement there is, the first suspect stands there
find-crossed : (slots : List Slot) (n : ℕ) → n ≤ length slots → pos 0 ≤ℤ total suspect_weight (take n slots)
    → (n < length slots → total suspect_weight (take (suc n) slots) <ℤ pos 0) → find is_suspect slots ≡ slice_get slots n
find-crossed [] n within enough crossed = refl
find-crossed (s ∷ slots) zero within enough crossed = by_cases s.is_suspect (crossed (omega arith))
  where
    by_cases : (b : Bool) → (weight_by b +ℤ pos 0) <ℤ pos 0 → cond b (Some s) (find is_suspect slots) ≡ Some s
    by_cases true below = refl
    by_cases false below = absurd (omega (arith, ints, below))
find-crossed (s ∷ slots) (suc n) within enough crossed =
    by_cases s.is_suspect enough (λ less. crossed (omega (arith, less))) (find-crossed slots n (omega (arith, within)))
  where
    by_cases : (b : Bool) → pos 0 ≤ℤ (weight_by b +ℤ total suspect_weight (take n slots))
        → (n < length slots → (weight_by b +ℤ total suspect_weight (take (suc n) slots)) <ℤ pos 0)
        → (pos 0 ≤ℤ total suspect_weight (take n slots)
        → (n < length slots → total suspect_weight (take (suc n) slots) <ℤ pos 0) → find is_suspect slots ≡ slice_get slots n)
        → cond b (Some s) (find is_suspect slots) ≡ slice_get slots n
    by_cases true above below rest = absurd (omega (arith, ints, above, front-most slots n))
    by_cases false above below rest =
        rest (omega (arith, ints, above)) (λ less. let sum = below less in omega (arith, ints, sum))

-- so it does where a running sum from nothing first falls below it
pub find-first_below : (slots : List Slot) (n : ℕ) (before : ℤ)
    → IsFirstBelow suspect_weight slots 0 (length slots) (pos 0) n before
    → find is_suspect slots ≡ slice_get slots n
find-first_below slots n before below =
    let enough : pos 0 ≤ℤ total suspect_weight (take n slots) = elim (cases_lt 0 n) [
      | inl some ↦ let sum = below.enough n some (omega arith) in omega (arith, ints, sum)
      | inr none ↦ let start : 0 ≡ n = omega (arith, none) in
          subst (λ (k : ℕ). pos 0 ≤ℤ total suspect_weight (take k slots)) start (omega (arith, ints))
    ] in
    let crossed : n < length slots → total suspect_weight (take (suc n) slots) <ℤ pos 0 = λ less.
    let one : n + 1 ≡ suc n = omega arith in
    let sum = below.crossed less in
    subst (λ (k : ℕ). total suspect_weight (take k slots) <ℤ pos 0) one (omega (arith, ints, sum)) in
    find-crossed slots n below.within enough crossed
