-- Lists in which every two elements are related, by recursion on the list.
use Rattle.std.proofs.Common.{ℕ, zero, suc, ◌<◌, List, [], ◌∷◌, length, get_or, arith}
use Rattle.std.specs.List.{AllPairs}

module _ {X : Type 0} (R : X → X → Type 0) where
  -- x is related to each of the list
  abbrev pub Precedes : X → List X → Type 0
  Precedes x [] = Unit {0}
  Precedes x (y ∷ ys) = R x y × Precedes x ys

  -- each element is related to each later one
  abbrev pub Pairwise : List X → Type 0
  Pairwise [] = Unit {0}
  Pairwise (x ∷ xs) = Precedes x xs × Pairwise xs

  -- x is related to what stands at each index
  Precedes-at : (x : X) (ys : List X) → Precedes x ys → (j : ℕ) (d : X) → j < length ys → R x (get_or ys j d)
  Precedes-at x [] h j d l = absurd (omega arith)
  Precedes-at x (y ∷ ys) h zero d l = h.0
  Precedes-at x (y ∷ ys) h (suc j) d l = Precedes-at x ys h.1 j d (omega arith)

  -- and back
  Precedes-from_at : (x : X) (ys : List X) → ((j : ℕ) (d : X) → j < length ys → R x (get_or ys j d)) → Precedes x ys
  Precedes-from_at x [] h = tt
  Precedes-from_at x (y ∷ ys) h =
      (h zero y (omega arith), Precedes-from_at x ys (λ j d l. h (suc j) d (omega arith)))

  -- the same fact by indexes
  pub AllPairs-from_Pairwise : (xs : List X) → Pairwise xs → AllPairs R xs
  AllPairs-from_Pairwise [] h i j d l m = absurd (omega arith)
  AllPairs-from_Pairwise (x ∷ xs) h zero zero d l m = absurd (omega arith)
  AllPairs-from_Pairwise (x ∷ xs) h zero (suc j) d l m = Precedes-at x xs h.0 j d (omega arith)
  AllPairs-from_Pairwise (x ∷ xs) h (suc i) zero d l m = absurd (omega arith)
  AllPairs-from_Pairwise (x ∷ xs) h (suc i) (suc j) d l m =
      AllPairs-from_Pairwise xs h.1 i j d (omega arith) (omega arith)

  pub Pairwise-from_AllPairs : (xs : List X) → AllPairs R xs → Pairwise xs
  Pairwise-from_AllPairs [] h = tt
  Pairwise-from_AllPairs (x ∷ xs) h = (
    Precedes-from_at x xs (λ j d l. h zero (suc j) d (omega arith) (omega arith)),
    Pairwise-from_AllPairs xs (λ i j d l m. h (suc i) (suc j) d (omega arith) (omega arith)),
  )
