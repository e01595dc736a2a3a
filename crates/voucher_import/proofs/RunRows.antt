-- The first run of rows, where it is known which rows are of its voucher.
use Rattle.std.proofs.Common.{◌≡◌, ◌≢◌, ◌<◌, ◌++◌, ℕ, Bool, true, false, List, [], ◌∷◌, length, refl, sym, ap, ◌∙◌, arith}
use Rattle.std.specs.Prelude.{All, if◌then◌else◌}
use Rattle.std.proofs.lemmas.List.Elements.{All-head, All-tail}
use Rattle.std.proofs.lemmas.Slice.Eq.{bytes_eq-Decides}
use Rattle.voucher_import.specs.Reading.{IsOfNext}
use Rattle.voucher_import.specs.Rows.{Row, voucher_of}
use Rattle.voucher_import.specs.Runs.{has_same_voucher, runs_of, with_row}

-- some run begins with the row
begun : (row : Row) (runs : List (List Row)) → (run : List Row) × (more : List (List Row)) × (with_row row runs ≡ (row ∷ run) ∷ more)
unfolding with_row
begun row [] = ([], [], refl)
begun row ([] ∷ runs) = ([], [] ∷ runs, refl)
begun row ((next ∷ run) ∷ runs) = go (has_same_voucher row next)
  where
    go : (b : Bool) → (others : List Row) × (more : List (List Row)) × ((if b then (row ∷ next ∷ run) ∷ runs else (row ∷ []) ∷ (next ∷ run) ∷ runs) ≡ (row ∷ others) ∷ more)
    go true = (next ∷ run, runs, refl)
    go false = ([], (next ∷ run) ∷ runs, refl)

not_true : (b : Bool) → (b ≡ true → ⊥) → b ≡ false
not_true true h = absurd (h refl)
not_true false h = refl

-- a row goes before a run of its own voucher
joins : (row next : Row) (run : List Row) (runs : List (List Row)) → voucher_of row ≡ voucher_of next → with_row row ((next ∷ run) ∷ runs) ≡ (row ∷ next ∷ run) ∷ runs
unfolding with_row
joins row next run runs same = rw ((bytes_eq-Decides (voucher_of row) (voucher_of next)).1 same) refl

-- a row stands alone before a run of another voucher
parts : (row next : Row) (run : List Row) (runs : List (List Row)) → voucher_of row ≢ voucher_of next → with_row row ((next ∷ run) ∷ runs) ≡ (row ∷ []) ∷ (next ∷ run) ∷ runs
unfolding with_row
parts row next run runs other = rw (not_true (has_same_voucher row next) (λ e. other ((bytes_eq-Decides (voucher_of row) (voucher_of next)).0 e))) refl

-- the last row of a run
ends : (row : Row) (rest : List Row) → IsOfNext (row ∷ []) rest → with_row row (runs_of rest) ≡ (row ∷ []) ∷ runs_of rest
unfolding runs_of with_row
ends row [] next = refl
ends row (other ∷ rest) next =
    let first = begun other (runs_of rest) in
    let apart = All-head (λ r. voucher_of r ≢ voucher_of other) row [] next in
    rw (first.2) (parts row other first.0 first.1 apart)

of_next_rest : (row : Row) (run rest : List Row) → IsOfNext (row ∷ run) rest → IsOfNext run rest
of_next_rest row run [] next = tt
of_next_rest row run (other ∷ rest) next = All-tail (λ r. voucher_of r ≢ voucher_of other) row run next

-- rows of one voucher, after which none of it comes, are the first run
pub first_run : (name : List ℕ) (row : Row) (run rest : List Row) → All (λ r. voucher_of r ≡ name) (row ∷ run) → IsOfNext (row ∷ run) rest
    → runs_of ((row ∷ run) ++ rest) ≡ (row ∷ run) ∷ runs_of rest
unfolding runs_of
first_run name row [] rest one next = ends row rest next
first_run name row (second ∷ run) rest one next =
    let others = All-tail (λ r. voucher_of r ≡ name) row (second ∷ run) one in
    let same = All-head (λ r. voucher_of r ≡ name) row (second ∷ run) one ∙ sym (All-head (λ r. voucher_of r ≡ name) second run others) in
    let tail = first_run name second run rest others (of_next_rest row (second ∷ run) rest next) in
    ap (with_row row) tail ∙ joins row second run (runs_of rest) same

-- the same of any rows of one voucher
pub first_run_of : (name : List ℕ) (run rest : List Row) → 0 < length run → All (λ r. voucher_of r ≡ name) run → IsOfNext run rest → runs_of (run ++ rest) ≡ run ∷ runs_of rest
first_run_of name [] rest some one next = absurd (omega arith)
first_run_of name (row ∷ run) rest some one next = first_run name row run rest one next
