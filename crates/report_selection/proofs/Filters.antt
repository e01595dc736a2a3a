-- What passes a test comes first, where no element that passes comes after one that fails.
use Rattle.std.proofs.Common.{◌≡◌, ℕ, zero, suc, ◌<◌, ◌≤◌, Bool, true, false, None, List, [], ◌∷◌, length, get_or, take, filter, inl, inr, refl, ap, arith}
use Rattle.std.specs.List.Sorted.{IsPartitionedBy}
use Rattle.std.proofs.lemmas.Bool.{cases_lt}
use Rattle.stock_nums.specs.declared.entry.Row.{Row}
use Rattle.stock_model.specs.Reports.{is_until}
use Rattle.stock_model.proofs.Pairwise.{Pairwise, AllPairs-from_Pairwise}
use Rattle.stock_laws.proofs.Until.{FailsOn}

-- with no last moment all movements are kept
pub all-kept : (rows : List Row) → filter (is_until None) rows ≡ rows
all-kept [] = refl
all-kept (row ∷ rows) = ap (λ (rest : List Row). row ∷ rest) (all-kept rows)

-- what passes comes after nothing that fails, where each fails after one that does
pub partitioned : {X : Type 0} (p : X → Bool) (xs : List X) → Pairwise (FailsOn p) xs → IsPartitionedBy p xs
partitioned {X = X} p xs order i j d early within passes =
    elim (cases_lt i j) [
      | inl before ↦
          let fails = AllPairs-from_Pairwise (FailsOn p) xs order i j d before within in
          let by : (b : Bool) → p (get_or xs i d) ≡ b → p (get_or xs i d) ≡ true = λ b. elim b as (λ v. p (get_or xs i d) ≡ v → p (get_or xs i d) ≡ true) [
            | true ↦ λ is. is
            | false ↦ λ is. let later = fails is in cc
          ] in
          by (p (get_or xs i d)) refl
      | inr after ↦
          let same : i ≡ j = omega (arith, early, after) in
          rw same passes
    ]

-- the elements up to a point, where those before it pass and the others fail, are those that pass
pub front-passes : {X : Type 0} (p : X → Bool) (xs : List X) (k : ℕ) → k ≤ length xs → ((j : ℕ) (d : X) → 0 ≤ j → j < k → p (get_or xs j d) ≡ true)
    → ((j : ℕ) (d : X) → k ≤ j → j < length xs → p (get_or xs j d) ≡ false) → take k xs ≡ filter p xs
front-passes p [] zero within passes fails = refl
front-passes p [] (suc k) within passes fails = refl
front-passes {X = X} p (x ∷ xs) zero within passes fails =
    let first : p x ≡ false = fails zero x (omega arith) (omega arith) in
    let rest = front-passes p xs zero (omega arith) (λ j d least below. absurd (omega (arith, below))) (λ j d least below. fails (suc j) d (omega arith) (omega (arith, below))) in
    rw first rest
front-passes {X = X} p (x ∷ xs) (suc k) within passes fails =
    let first : p x ≡ true = passes zero x (omega arith) (omega arith) in
    let rest = front-passes p xs k (omega (arith, within)) (λ j d least below. passes (suc j) d (omega arith) (omega (arith, below)))
    (λ j d least below. fails (suc j) d (omega (arith, least)) (omega (arith, below))) in
    rw first (ap (λ (ys : List X). x ∷ ys) rest)
