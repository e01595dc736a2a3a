-- What passes made, gathered as they were joined into pass 0.
use Rattle.std.proofs.Common.{◌≡◌, ◌≢◌, ℕ, zero, suc, ◌+◌, ◌<◌, ◌≤◌, List, [], ◌∷◌, ◌++◌, length, map, refl, sym, ap, ◌∙◌, subst, eq-eqb, ne_eqb, arith}
use Rattle.std.specs.Prelude.{All, ◌==◌, if◌then◌else◌, sum_by}
use Rattle.std.proofs.lemmas.List.{map-append}
use Rattle.std.proofs.lemmas.List.Sums.{sum_by-cons}
use Rattle.std.proofs.lemmas.List.Elements.{All-nil, All-cons, All-head, All-tail, All-weaker}
use Rattle.atomic_table.specs.Seated.{TableId}
use Rattle.turn_lock.specs.Passes.{PassView}
use Rattle.turn_lock.specs.Views.{all_faults, joined_made, kept_of, made_through}
use Rattle.turn_lock.specs.declared.view.Joined.{Joined}
use Rattle.turn_lock.specs.declared.view.View.{View}
use Rattle.desk_service.specs.Passes.{fresh, passes_from, joined_all}
use Rattle.desk_service.specs.Service.{total_to}

-- so many numbers, from the lowest on, which comes last
abbrev pub IsDown : ℕ → ℕ → List ℕ → Type 0
IsDown low zero [] = Unit {0}
IsDown low zero (k ∷ ks) = ⊥
IsDown low (suc n) [] = ⊥
IsDown low (suc n) (k ∷ ks) = (k ≡ low + n) × IsDown low n ks

down-more : (low n : ℕ) (ks : List ℕ) → IsDown (low + 1) n ks → IsDown low (suc n) (ks ++ low ∷ [])
down-more low zero [] down = (omega arith, tt)
down-more low zero (k ∷ ks) down = absurd down
down-more low (suc n) [] down = absurd down
down-more low (suc n) (k ∷ ks) down = let h = down.0 in (omega arith, down-more low n ks down.1)

module _ {E : Type 0} where
  -- what the pass with this number made, of these
  abbrev pub made_in : ℕ → List (PassView E) → List (ℕ × E)
  made_in k [] = []
  made_in k (pass ∷ passes) = if pass.view.number == k then pass.view.made else made_in k passes

  pub joined_all-first : (view : View E) (passes : List (PassView E)) → (joined_all view passes).first ≡ view.first
  joined_all-first view [] = refl
  joined_all-first view (pass ∷ passes) = joined_all-first view passes

  pub joined_all-number : (view : View E) (passes : List (PassView E)) → (joined_all view passes).number ≡ view.number
  joined_all-number view [] = refl
  joined_all-number view (pass ∷ passes) = joined_all-number view passes

  pub joined_all-first_faults : (view : View E) (passes : List (PassView E)) → (joined_all view passes).first_faults ≡ view.first_faults
  joined_all-first_faults view [] = refl
  joined_all-first_faults view (pass ∷ passes) = joined_all-first_faults view passes

  pub joined_all-start : (view : View E) (passes : List (PassView E)) → (joined_all view passes).start ≡ view.start
  joined_all-start view [] = refl
  joined_all-start view (pass ∷ passes) = joined_all-start view passes

  joined_all-made : (view : View E) (passes : List (PassView E)) → (joined_all view passes).made ≡ view.made
  joined_all-made view [] = refl
  joined_all-made view (pass ∷ passes) = joined_all-made view passes

  pub joined_all-split : (view : View E) (passes : List (PassView E)) → (joined_all view passes).split ≡ view.split
  joined_all-split view [] = refl
  joined_all-split view (pass ∷ passes) = joined_all-split view passes

  pub joined_all-count : (view : View E) (passes : List (PassView E))
      → length (joined_all view passes).joined ≡ length view.joined + length passes
  joined_all-count view [] = omega arith
  joined_all-count view (pass ∷ passes) = omega (arith, joined_all-count view passes)

  -- and keeps how many faults were counted in the turns of each
  pub joined_all-faults : (view : View E) (passes : List (PassView E))
      → all_faults (joined_all view passes) ≡ all_faults view + sum_by (λ pass. pass.view.faults) passes
  joined_all-faults view [] = omega arith
  joined_all-faults view (pass ∷ passes) =
      let before = joined_all view passes in
      let own = λ (p : PassView E). p.view.faults in
      let others = sum_by-cons (λ (j : Joined E). j.faults) (kept_of before pass.view) before.joined in
      let each = sum_by-cons own pass passes in
      let all : all_faults (joined_all view (pass ∷ passes)) ≡ all_faults before + own pass =
      ap (λ (n : ℕ). before.faults + n) others ∙ omega arith
      in
      omega (arith, all, each, joined_all-faults view passes)

  joined_all-others : (k : ℕ) (view : View E) (passes : List (PassView E)) → view.joined ≡ []
      → joined_made k (joined_all view passes).joined ≡ made_in k passes
  joined_all-others k view [] none = ap (joined_made k) none
  joined_all-others k view (pass ∷ passes) none =
      ap (λ (z : List (ℕ × E)). if pass.view.number == k then pass.view.made else z) (joined_all-others k view passes none)

  -- pass 0 keeps what it made itself, and what each other made
  module _ (view : View E) (passes : List (PassView E)) (is_zero : view.number ≡ 0) (none : view.joined ≡ []) where
    pub made_through-zero : made_through 0 (joined_all view passes) ≡ view.made
    made_through-zero =
        rw (eq-eqb (joined_all view passes).number 0 (joined_all-number view passes ∙ is_zero)) (joined_all-made view passes)

    pub made_through-other : (k : ℕ) → 0 < k → made_through k (joined_all view passes) ≡ made_in k passes
    made_through-other k some =
        let other : (joined_all view passes).number ≢ k =
        λ same. let zero_is : k ≡ 0 = sym same ∙ joined_all-number view passes ∙ is_zero in omega arith
        in
        rw (ne_eqb (joined_all view passes).number k other) (joined_all-others k view passes none)

  -- the numbers of passes
  abbrev pub numbers : List (PassView E) → List ℕ
  numbers passes = map (λ pass. pass.view.number) passes

  pub passes_from-down : (lock : TableId) (known : View E) (number count : ℕ)
      → IsDown number count (numbers (passes_from lock known number count))
  passes_from-down lock known number zero = tt
  passes_from-down lock known number (suc count) =
      subst (IsDown number (suc count))
      (sym (map-append (λ (pass : PassView E). pass.view.number) (passes_from lock known (number + 1) count)
      (record { lock = lock; view = fresh known number } ∷ [])))
      (down-more number count (numbers (passes_from lock known (number + 1) count)) (passes_from-down lock known (number + 1) count))

  below : (low n : ℕ) (passes : List (PassView E)) → IsDown low n (numbers passes) → All (λ pass. pass.view.number < low + n) passes
  below low zero [] down = All-nil (λ (pass : PassView E). pass.view.number < low + zero)
  below low zero (pass ∷ passes) down = absurd down
  below low (suc n) [] down = absurd down
  below low (suc n) (pass ∷ passes) down =
      let own = down.0 in
      All-cons (λ (p : PassView E). p.view.number < low + suc n) pass passes (omega arith)
      (All-weaker (λ (p : PassView E). p.view.number < low + n) (λ (p : PassView E). p.view.number < low + suc n)
      (λ p less. omega arith) passes (below low n passes down.1))

  -- no pass of these has this number
  pub made_in-none : (k : ℕ) (passes : List (PassView E)) → All (λ pass. pass.view.number ≢ k) passes → made_in k passes ≡ []
  made_in-none k [] none = refl
  made_in-none k (pass ∷ passes) none =
      rw (ne_eqb pass.view.number k (All-head (λ (p : PassView E). p.view.number ≢ k) pass passes none))
      (made_in-none k passes (All-tail (λ (p : PassView E). p.view.number ≢ k) pass passes none))

  -- how many faults were counted in the turns of the pass with this number, of these
  abbrev pub count_in : ℕ → List (PassView E) → ℕ
  count_in k [] = 0
  count_in k (pass ∷ passes) = if pass.view.number == k then pass.view.faults else count_in k passes

  counts-more : (n : ℕ) (pass : PassView E) (passes : List (PassView E)) → n < pass.view.number
      → total_to n (λ k. count_in k (pass ∷ passes)) ≡ total_to n (λ k. count_in k passes)
  counts-more zero pass passes before = refl
  counts-more (suc n) pass passes before =
      let own : count_in (suc n) (pass ∷ passes) ≡ count_in (suc n) passes = rw (ne_eqb pass.view.number (suc n) (λ same. omega arith)) refl in
      let rest = counts-more n pass passes (omega arith) in
      omega (arith, own, rest)

  -- of passes that are numbered from 1 on, the counts of all numbers are those of all passes
  pub counts-all : (n : ℕ) (passes : List (PassView E)) → IsDown 1 n (numbers passes)
      → total_to n (λ k. count_in k passes) ≡ sum_by (λ pass. pass.view.faults) passes
  counts-all zero [] down = refl
  counts-all zero (pass ∷ passes) down = absurd down
  counts-all (suc n) [] down = absurd down
  counts-all (suc n) (pass ∷ passes) down =
      let is : pass.view.number ≡ suc n = let h = down.0 in omega arith in
      let own : count_in (suc n) (pass ∷ passes) ≡ pass.view.faults = rw (eq-eqb pass.view.number (suc n) is) refl in
      let before = counts-more n pass passes (omega (arith, is)) in
      let rest = counts-all n passes down.1 in
      omega (arith, own, before, rest, sum_by-cons (λ (p : PassView E). p.view.faults) pass passes)

  pub no_later : (low n k : ℕ) (passes : List (PassView E)) → IsDown low n (numbers passes) → low + n ≤ k
      → All (λ pass. pass.view.number ≢ k) passes
  no_later low n k passes down later =
      All-weaker (λ (p : PassView E). p.view.number < low + n) (λ (p : PassView E). p.view.number ≢ k) (λ p less same. omega arith) passes
      (below low n passes down)

  no_earlier : (low n k : ℕ) (passes : List (PassView E)) → IsDown low n (numbers passes) → k < low → All (λ pass. pass.view.number ≢ k) passes
  no_earlier low zero k [] down before = All-nil (λ (p : PassView E). p.view.number ≢ k)
  no_earlier low zero k (pass ∷ passes) down before = absurd down
  no_earlier low (suc n) k [] down before = absurd down
  no_earlier low (suc n) k (pass ∷ passes) down before =
      let own = down.0 in
      All-cons (λ (p : PassView E). p.view.number ≢ k) pass passes (λ same. omega arith) (no_earlier low n k passes down.1 before)

  -- of passes that are numbered from 1 on, pass 0 is none
  pub no_zero : (n : ℕ) (passes : List (PassView E)) → IsDown 1 n (numbers passes) → All (λ pass. pass.view.number ≢ 0) passes
  no_zero n passes down = no_earlier 1 n 0 passes down (omega arith)
