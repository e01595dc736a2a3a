-- What desks did, taken apart by the numbers of the desks.
use Rattle.std.proofs.Common.{◌≡◌, ◌≢◌, ℕ, zero, suc, ◌+◌, ◌<◌, ◌≤◌, List, [], ◌∷◌, length, refl, sym, ap, ◌∙◌, subst, arith, eq-eqb, ne_eqb}
use Rattle.std.specs.Prelude.{filter, ◌==◌, not}
use mathlib.Core.Logic.{dite}
use native.Mathlib.Decide.{ℕ_discrete}
use Rattle.turn_lock.specs.Histories.{made_by}
use Rattle.shared_listener.specs.Steps.{comes, hangs}
use Rattle.shared_listener.specs.declared.step.Step.{Step}
use Rattle.shared_listener.specs.declared.step.Step.TheVariants.{Opened, Came, HungUp, Ended}

module _ {E : Type 0} where
  -- what others made
  abbrev pub others_of : ℕ → List (ℕ × E) → List (ℕ × E)
  others_of k events = filter (λ e. not (e.0 == k)) events

  pub others-no_longer : (k : ℕ) (events : List (ℕ × E)) → length (others_of k events) ≤ length events
  others-no_longer k [] = omega arith
  others-no_longer k (x ∷ xs) = let r = others-no_longer k xs in dite (ℕ_discrete x.0 k)
      (λ e. rw (eq-eqb x.0 k e) (omega (arith, r)))
      (λ d. rw (ne_eqb x.0 k d) (omega (arith, r)))

  -- of the desk itself they have nothing
  pub made-others-same : (k : ℕ) (events : List (ℕ × E)) → made_by k (others_of k events) ≡ []
  made-others-same k [] = refl
  made-others-same k (x ∷ xs) = let r = made-others-same k xs in dite (ℕ_discrete x.0 k)
      (λ e. rw (eq-eqb x.0 k e) r)
      (λ d. rw (ne_eqb x.0 k d) (rw (ne_eqb x.0 k d) r))

  -- of any other they have all
  pub made-others-other : (j k : ℕ) (events : List (ℕ × E)) → j ≢ k → made_by j (others_of k events) ≡ made_by j events
  made-others-other j k [] ne = refl
  made-others-other j k (x ∷ xs) ne = let r = made-others-other j k xs ne in dite (ℕ_discrete x.0 k)
      (λ e. rw (eq-eqb x.0 k e) (rw (ne_eqb x.0 j (λ d. ne (sym d ∙ e))) r))
      (λ d. rw (ne_eqb x.0 k d) (dite (ℕ_discrete x.0 j)
      (λ e. rw (eq-eqb x.0 j e) (ap (λ (z : List (ℕ × E)). x ∷ z) r))
      (λ f. rw (ne_eqb x.0 j f) r)))

module _ {L P : Type 0} where
  comes-parts : (k : ℕ) (log : List (ℕ × Step L P)) → length (comes log) ≡ length (comes (made_by k log)) + length (comes (others_of k log))
  comes-parts k [] = omega arith
  comes-parts k ((n, Opened opening) ∷ log) = let r = comes-parts k log in dite (ℕ_discrete n k)
      (λ e. rw (eq-eqb n k e) r) (λ d. rw (ne_eqb n k d) r)
  comes-parts k ((n, Came what) ∷ log) = let r = comes-parts k log in dite (ℕ_discrete n k)
      (λ e. rw (eq-eqb n k e) (omega (arith, r))) (λ d. rw (ne_eqb n k d) (omega (arith, r)))
  comes-parts k ((n, HungUp what) ∷ log) = let r = comes-parts k log in dite (ℕ_discrete n k)
      (λ e. rw (eq-eqb n k e) r) (λ d. rw (ne_eqb n k d) r)
  comes-parts k ((n, Ended) ∷ log) = let r = comes-parts k log in dite (ℕ_discrete n k)
      (λ e. rw (eq-eqb n k e) r) (λ d. rw (ne_eqb n k d) r)

  hangs-parts : (k : ℕ) (log : List (ℕ × Step L P)) → length (hangs log) ≡ length (hangs (made_by k log)) + length (hangs (others_of k log))
  hangs-parts k [] = omega arith
  hangs-parts k ((n, Opened opening) ∷ log) = let r = hangs-parts k log in dite (ℕ_discrete n k)
      (λ e. rw (eq-eqb n k e) r) (λ d. rw (ne_eqb n k d) r)
  hangs-parts k ((n, Came what) ∷ log) = let r = hangs-parts k log in dite (ℕ_discrete n k)
      (λ e. rw (eq-eqb n k e) r) (λ d. rw (ne_eqb n k d) r)
  hangs-parts k ((n, HungUp what) ∷ log) = let r = hangs-parts k log in dite (ℕ_discrete n k)
      (λ e. rw (eq-eqb n k e) (omega (arith, r))) (λ d. rw (ne_eqb n k d) (omega (arith, r)))
  hangs-parts k ((n, Ended) ∷ log) = let r = hangs-parts k log in dite (ℕ_discrete n k)
      (λ e. rw (eq-eqb n k e) r) (λ d. rw (ne_eqb n k d) r)

  -- each desk handed back no more than came to it
  abbrev pub BackAfter : List (ℕ × Step L P) → Type 0
  BackAfter log = (k : ℕ) → length (hangs (made_by k log)) ≤ length (comes (made_by k log))

  back-others : (k : ℕ) (log : List (ℕ × Step L P)) → BackAfter log → BackAfter (others_of k log)
  back-others k log each j = dite (ℕ_discrete j k)
      (λ e. subst (λ (n : ℕ). length (hangs (made_by n (others_of k log))) ≤ length (comes (made_by n (others_of k log)))) (sym e)
      (rw (made-others-same k log) (omega arith)))
      (λ d. rw (made-others-other j k log d) (each j))

  -- so they did together, by recursion on a length that is no less than the log's
  back-all_within : (n : ℕ) (log : List (ℕ × Step L P)) → length log ≤ n → BackAfter log → length (hangs log) ≤ length (comes log)
  back-all_within n [] within each = omega arith
  back-all_within zero (x ∷ log) within each = absurd (omega arith)
  back-all_within (suc n) (x ∷ log) within each =
      let rest = others_of x.0 (x ∷ log) in
      let same : rest ≡ others_of x.0 log = rw (eq-eqb x.0 x.0 refl) refl in
      let shorter : length rest ≤ length log = subst (λ z. length z ≤ length log) (sym same) (others-no_longer x.0 log) in
      let of_rest = back-all_within n rest (omega (arith, shorter)) (back-others x.0 (x ∷ log) each) in
      omega (arith, of_rest, each x.0, comes-parts x.0 (x ∷ log), hangs-parts x.0 (x ∷ log))

  pub back-all : (log : List (ℕ × Step L P)) → BackAfter log → length (hangs log) ≤ length (comes log)
  back-all log each = back-all_within (length log) log (omega arith) each

  -- where one desk holds a peer, more came than were handed back
  pub back-fewer : (number : ℕ) (log : List (ℕ × Step L P)) → BackAfter log
      → length (hangs (made_by number log)) < length (comes (made_by number log)) → length (hangs log) < length (comes log)
  back-fewer number log each holds =
      omega (arith, holds, back-all (others_of number log) (back-others number log each), comes-parts number log, hangs-parts number log)
