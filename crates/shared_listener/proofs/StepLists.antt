-- What desks did, taken in two parts.
use Rattle.std.proofs.Common.{◌≡◌, ℕ, List, [], ◌∷◌, ◌++◌, refl, ap}
use Rattle.std.specs.Prelude.{◌||◌}
use Rattle.shared_listener.specs.Steps.{comes, hangs, comers, has_ended}
use Rattle.shared_listener.specs.declared.step.Step.{Step}
use Rattle.shared_listener.specs.declared.step.Step.TheVariants.{Opened, Came, HungUp, Ended}

module _ {L P : Type 0} where
  pub comes-append : (xs ys : List (ℕ × Step L P)) → comes (xs ++ ys) ≡ comes xs ++ comes ys
  comes-append [] ys = refl
  comes-append ((k, Opened opening) ∷ xs) ys = comes-append xs ys
  comes-append ((k, Came what) ∷ xs) ys = ap (λ (z : List P). what.value ∷ z) (comes-append xs ys)
  comes-append ((k, HungUp what) ∷ xs) ys = comes-append xs ys
  comes-append ((k, Ended) ∷ xs) ys = comes-append xs ys

  pub hangs-append : (xs ys : List (ℕ × Step L P)) → hangs (xs ++ ys) ≡ hangs xs ++ hangs ys
  hangs-append [] ys = refl
  hangs-append ((k, Opened opening) ∷ xs) ys = hangs-append xs ys
  hangs-append ((k, Came what) ∷ xs) ys = hangs-append xs ys
  hangs-append ((k, HungUp what) ∷ xs) ys = ap (λ (z : List P). what.value ∷ z) (hangs-append xs ys)
  hangs-append ((k, Ended) ∷ xs) ys = hangs-append xs ys

  pub comers-append : (xs ys : List (ℕ × Step L P)) → comers (xs ++ ys) ≡ comers xs ++ comers ys
  comers-append [] ys = refl
  comers-append ((k, Opened opening) ∷ xs) ys = comers-append xs ys
  comers-append ((k, Came what) ∷ xs) ys = ap (λ (z : List ℕ). k ∷ z) (comers-append xs ys)
  comers-append ((k, HungUp what) ∷ xs) ys = comers-append xs ys
  comers-append ((k, Ended) ∷ xs) ys = comers-append xs ys

  pub has_ended-append : (xs ys : List (ℕ × Step L P)) → has_ended (xs ++ ys) ≡ (has_ended xs || has_ended ys)
  has_ended-append [] ys = refl
  has_ended-append ((k, Opened opening) ∷ xs) ys = has_ended-append xs ys
  has_ended-append ((k, Came what) ∷ xs) ys = has_ended-append xs ys
  has_ended-append ((k, HungUp what) ∷ xs) ys = has_ended-append xs ys
  has_ended-append ((k, Ended) ∷ xs) ys = refl
