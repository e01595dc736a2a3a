-- Where no more peers come than there are desks, each desk has one visit at most.
use Rattle.std.proofs.Common.{◌≡◌, ℕ, ◌+◌, ◌≤◌, List, [], ◌∷◌, length, map, refl, ap, ◌∙◌, arith}
use Rattle.shared_listener.specs.Sharing.{AreFirstInOrder}
use Rattle.shared_listener.specs.Visits.{visits_to}
use Rattle.shared_listener.proofs.Merging.{visits_to-same, visits_to-other}

module _ {V : Type 0} where
  -- desks, numbered on from this number, have one of these visits each, and later ones have none
  abbrev pub HaveOneEach : ℕ → (ℕ → List V) → List V → Type 0
  HaveOneEach number visits [] = (k : ℕ) → number ≤ k → visits k ≡ []
  HaveOneEach number visits (v ∷ vs) = (visits number ≡ v ∷ []) × HaveOneEach (number + 1) visits vs

  pub HaveOneEach-same : (number : ℕ) (visits others : ℕ → List V) (vs : List V) → ((k : ℕ) → number ≤ k → others k ≡ visits k)
      → HaveOneEach number visits vs → HaveOneEach number others vs
  HaveOneEach-same number visits others [] same each = λ k later. same k later ∙ each k later
  HaveOneEach-same number visits others (v ∷ vs) same each =
      (same number (omega arith) ∙ each.0, HaveOneEach-same (number + 1) visits others vs (λ k later. same k (omega (arith, later))) each.1)

  -- no visit is to a desk that came before
  none_before : (place desks : ℕ) (all : List (ℕ × V)) → AreFirstInOrder place desks (map (λ v. v.0) all) → place + length all ≤ desks
      → (k : ℕ) → k ≤ place → visits_to k all ≡ []
  none_before place desks [] in_order few k before = refl
  none_before place desks ((n, v) ∷ all) in_order few k before =
      let own : n ≡ place + 1 = in_order.0 (omega (arith, few)) in
      visits_to-other n k v all (λ same. omega (arith, same, own, before))
      ∙ none_before (place + 1) desks all in_order.1 (omega (arith, few)) k (omega (arith, before))

  pub one_each : (place desks : ℕ) (all : List (ℕ × V)) → AreFirstInOrder place desks (map (λ v. v.0) all) → place + length all ≤ desks
      → HaveOneEach (place + 1) (λ k. visits_to k all) (map (λ v. v.1) all)
  one_each place desks [] in_order few = λ k later. refl
  one_each place desks ((n, v) ∷ all) in_order few =
      let own : n ≡ place + 1 = in_order.0 (omega (arith, few)) in (
        visits_to-same n (place + 1) v all own
            ∙ ap (λ (z : List V). v ∷ z) (none_before (place + 1) desks all in_order.1 (omega (arith, few)) (place + 1) (omega arith)),
        HaveOneEach-same (place + 1 + 1) (λ k. visits_to k all) (λ k. visits_to k ((n, v) ∷ all)) (map (λ v. v.1) all)
            (λ k later. visits_to-other n k v all (λ same. omega (arith, same, own, later)))
            (one_each (place + 1) desks all in_order.1 (omega (arith, few))),
      )
