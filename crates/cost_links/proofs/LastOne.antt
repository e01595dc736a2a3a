-- Lists with one more element at the end.
use Rattle.std.proofs.Common.{◌≡◌, ℕ, ◌+◌, Bool, true, false, cond, List, [], ◌∷◌, ◌++◌, filter, sum_by, refl, ap, ◌∙◌, arith}
use Rattle.std.proofs.lemmas.List.Elements.{filter-append}
use Rattle.std.proofs.lemmas.List.Sums.{sum_by-cons, sum_by-append}

-- a sum over the elements that pass a test
pub sum_where-next : {X : Type 0} (f : X → ℕ) (p : X → Bool) (xs : List X) (x : X) → sum_by f (filter p (xs ++ x ∷ [])) ≡ sum_by f (filter p xs) + cond (p x) (f x) 0
sum_where-next f p xs x =
    let last = one f x (p x) in
    let both = ap (sum_by f) (filter-append p xs (x ∷ [])) ∙ sum_by-append f (filter p xs) (filter p (x ∷ [])) in
    omega (arith, both, last)
  where
    one : {X : Type 0} (f : X → ℕ) (x : X) (b : Bool) → sum_by f (cond b (x ∷ []) []) ≡ cond b (f x) 0
    one f x true = omega (arith, sum_by-cons f x [])
    one f x false = refl
