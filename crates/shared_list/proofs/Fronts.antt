-- The first items of a list: what they are the beginning of, and what is left behind the first of them.
use Rattle.std.proofs.Common.{◌≡◌, ℕ, ◌+◌, List, [], ◌∷◌, ◌++◌, take, drop, Option, Some, None, sym, ap, ◌∙◌, refl}
use native.Mathlib.Numerals.{unary_clauses}
use Rattle.std.proofs.lemmas.List.{append-nil, take-append-drop}
use Rattle.shared_list.specs.Whole.{first_of}

module _ {T : Type 0} where
  -- a list begins with its first items
  pub behind_first : (most : Option ℕ) (items : List T) → (rest : List T) × (items ≡ first_of most items ++ rest)
  behind_first (Some most) items = (drop most items, sym (take-append-drop most items))
  behind_first None items = ([], sym (append-nil items))

  first_more : (more : ℕ) (first : T) (items : List T) → take (more + 1) (first ∷ items) ≡ first ∷ take more items
  first_more more first items = simp unary_clauses refl

  -- where all are to come, the first comes before all others
  pub steps-all : (most more : Option ℕ) (items : List T) (first : T) (rest : List T) → most ≡ None → more ≡ None → items ≡ first ∷ rest
      → first_of most items ≡ first ∷ first_of more rest
  steps-all most more items first rest none none' is =
      ap (λ (n : Option ℕ). first_of n items) none ∙ is ∙ ap (λ (n : Option ℕ). first ∷ first_of n rest) (sym none')

  -- and where so many are, before those that come with one less
  pub steps-some : (most more : Option ℕ) (n m : ℕ) (items : List T) (first : T) (rest : List T) → most ≡ Some n → more ≡ Some m → n ≡ m + 1
      → items ≡ first ∷ rest → first_of most items ≡ first ∷ first_of more rest
  steps-some most more n m items first rest some some' less is =
      ap (λ (k : Option ℕ). first_of k items) some
      ∙ ap (λ (k : ℕ). take k items) less
      ∙ ap (take (m + 1)) is
      ∙ first_more m first rest
      ∙ ap (λ (k : Option ℕ). first ∷ first_of k rest) (sym some')
