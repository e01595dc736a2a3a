-- What passes a test among the elements of a list in another order.
use Rattle.std.proofs.Common.{ℕ, zero, suc, ◌<◌, Bool, true, false, cond, List, [], ◌∷◌, length, get_or, set, filter, subst, arith}
use Rattle.std.specs.List.Sorted.{IsPermutation}
use Rattle.std.proofs.lemmas.List.Edits.{swap_is}
use Rattle.std.proofs.lemmas.List.Sorted.{IsPermutation-refl, IsPermutation-trans, IsPermutation-cons, IsPermutation-middle, IsPermutation-keeps}

-- an element of a list that has one
first_of : {X : Type 0} (xs : List X) (i : ℕ) → i < length xs → X
first_of [] i within = absurd (omega (arith, within))
first_of (x ∷ xs) i within = x

module _ {X : Type 0} (p : X → Bool) where
  -- the first two in the other order
  heads : (a b : X) (xs : List X) → IsPermutation (filter p (a ∷ b ∷ xs)) (filter p (b ∷ a ∷ xs))
  heads a b xs = by_cases (p a) (p b)
    where
      rest : List X
      rest = filter p xs

      by_cases : (c d : Bool) → IsPermutation (cond c (a ∷ cond d (b ∷ rest) rest) (cond d (b ∷ rest) rest)) (cond d (b ∷ cond c (a ∷ rest) rest) (cond c (a ∷ rest) rest))
      by_cases true true = IsPermutation-middle (a ∷ []) b rest
      by_cases true false = IsPermutation-refl (a ∷ rest)
      by_cases false true = IsPermutation-refl (b ∷ rest)
      by_cases false false = IsPermutation-refl rest

  -- one more before both
  behind : (a : X) (xs ys : List X) → IsPermutation (filter p xs) (filter p ys) → IsPermutation (filter p (a ∷ xs)) (filter p (a ∷ ys))
  behind a xs ys h =
      elim (p a) as (λ b. IsPermutation (cond b (a ∷ filter p xs) (filter p xs)) (cond b (a ∷ filter p ys) (filter p ys))) [
        | true ↦ IsPermutation-cons a (filter p xs) (filter p ys) h
        | false ↦ h
      ]

  -- the first one and one of the others in each other's place
  exchanged : (d a : X) (xs : List X) (i : ℕ) → i < length xs → IsPermutation (filter p (a ∷ xs)) (filter p (get_or xs i d ∷ set xs i a))
  exchanged d a [] i within = absurd (omega (arith, within))
  exchanged d a (x ∷ xs) zero within = heads a x xs
  exchanged d a (x ∷ xs) (suc i) within =
      let y = get_or xs i d in
      let rest = set xs i a in
      IsPermutation-trans (filter p (a ∷ x ∷ xs)) (filter p (x ∷ a ∷ xs)) (filter p (y ∷ x ∷ rest)) (heads a x xs)
      (IsPermutation-trans (filter p (x ∷ a ∷ xs)) (filter p (x ∷ y ∷ rest)) (filter p (y ∷ x ∷ rest))
      (behind x (a ∷ xs) (y ∷ rest) (exchanged d a xs i (omega (arith, within)))) (heads x y rest))

  -- any two of them
  swapped : (d : X) (xs : List X) (i j : ℕ) → i < length xs → j < length xs
      → IsPermutation (filter p xs) (filter p (set (set xs i (get_or xs j d)) j (get_or xs i d)))
  swapped d [] i j within also = absurd (omega (arith, within))
  swapped d (x ∷ xs) zero zero within also = IsPermutation-refl (filter p (x ∷ xs))
  swapped d (x ∷ xs) zero (suc j) within also = exchanged d x xs j (omega (arith, also))
  swapped d (x ∷ xs) (suc i) zero within also = exchanged d x xs i (omega (arith, within))
  swapped d (x ∷ xs) (suc i) (suc j) within also =
      behind x xs (set (set xs i (get_or xs j d)) j (get_or xs i d)) (swapped d xs i j (omega (arith, within)) (omega (arith, also)))

  -- and all in any order
  pub IsPermutation-filter : (xs ys : List X) → IsPermutation xs ys → IsPermutation (filter p xs) (filter p ys)
  IsPermutation-filter xs ys same =
      IsPermutation-keeps xs (λ (l : List X). IsPermutation (filter p xs) (filter p l)) (IsPermutation-refl (filter p xs))
      (λ l i j within also so_far.
      let d : X = first_of l i within in
      let made = set (set l i (get_or l j d)) j (get_or l i d) in
      subst (λ (m : List X). IsPermutation (filter p xs) (filter p m)) (swap_is l i j d within also)
      (IsPermutation-trans (filter p xs) (filter p l) (filter p made) so_far (swapped d l i j within also))) ys same
