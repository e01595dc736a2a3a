-- Where a walk over a list stands, by what is still to come.
use Rattle.std.proofs.Common.{◌≡◌, ℕ, ◌+◌, ◌<◌, ◌≤◌, List, [], ◌∷◌, length, drop, get_or, inl, inr, sym, ap, ◌∙◌, arith}
use Rattle.std.proofs.lemmas.Bool.{cases_lt}
use Rattle.std.proofs.lemmas.List.{length-drop, drop_more, drop_all}

-- behind the first of what is to come stands the rest
pub at_next : {X : Type 0} (xs rest after : List X) (i : ℕ) (x : X) → rest ≡ drop i xs → rest ≡ x ∷ after
    → (i < length xs) × (x ≡ get_or xs i x) × (after ≡ drop (i + 1) xs)
at_next xs rest after i x stands next =
    elim (cases_lt i (length xs)) [
      | inl within ↦
          let both : x ∷ after ≡ get_or xs i x ∷ drop (i + 1) xs = sym next ∙ stands ∙ drop_more xs i x within in
          (within, ap (λ ys. get_or ys 0 x) both, ap (drop 1) both)
      | inr past ↦ let none : x ∷ after ≡ [] = sym next ∙ stands ∙ drop_all i xs past in cc
    ]

-- where nothing is to come, all was seen
pub at_end : {X : Type 0} (xs rest : List X) (i : ℕ) → rest ≡ drop i xs → rest ≡ [] → length xs ≤ i
at_end xs rest i stands none = omega (arith, length-drop i xs, ap length (sym stands ∙ none))
