-- Texts that grow by a piece for each element of a list, from one to the next.
use Rattle.std.proofs.Common.{◌≡◌, ℕ, ◌+◌, ◌<◌, ◌≤◌, List, [], ◌∷◌, ◌++◌, length, take, get_or, Some, None, slice_get, sym, ap, ◌∙◌, append-nil, arith, inl, inr}
use Rattle.std.specs.List.{flat_map}
use Rattle.std.proofs.lemmas.List.{take_more, take_all}
use Rattle.std.proofs.lemmas.List.Concat.{flat_map-append}
use Rattle.std.proofs.lemmas.Option.{slice_get_within, slice_get_cases, get_or_from_slice_get}
use Rattle.valuation_report.specs.Adding.{Adds}
use Rattle.valuation_report.proofs.Joined.{joined, renamed}

-- no piece was added
pub no_piece : (text : List ℕ) → Adds text text []
no_piece text = record { is = sym (append-nil text) }

-- the same text by another name
pub same_text : {t u v a : List ℕ} → v ≡ u → Adds t u a → Adds t v a
same_text is added = record { is = is ∙ added.is }

-- the pieces of the first elements
abbrev pub first_pieces : {X : Type 0} → (X → List ℕ) → List X → ℕ → List ℕ
first_pieces piece xs n = flat_map piece (take n xs)

module _ {X : Type 0} (piece : X → List ℕ) (xs : List X) where
  -- the pieces of one more element
  first_pieces-more : (i : ℕ) (d : X) → i < length xs → first_pieces piece xs i ++ piece (get_or xs i d) ≡ first_pieces piece xs (i + 1)
  first_pieces-more i d within =
      ap (λ (last : List ℕ). first_pieces piece xs i ++ last) (sym (append-nil (piece (get_or xs i d))))
      ∙ sym (ap (flat_map piece) (take_more xs i d within) ∙ flat_map-append piece (take i xs) (get_or xs i d ∷ []))

  -- one more element has its piece
  pub one_more : {t u v : List ℕ} (i : ℕ) (d : X) → i < length xs → Adds t u (first_pieces piece xs i) → Adds u v (piece (get_or xs i d))
      → Adds t v (first_pieces piece xs (i + 1))
  one_more i d within before added = renamed (joined before added) (first_pieces-more i d within)

  -- one more element, if it stands at this place
  pub one_found : {t u v : List ℕ} (i : ℕ) (x : X) → Some x ≡ slice_get xs i → Adds t u (first_pieces piece xs i) → Adds u v (piece x)
      → Adds t v (first_pieces piece xs (i + 1))
  one_found i x there before added =
      one_more i x (slice_get_within xs i x (sym there)) before (renamed added (ap piece (sym (get_or_from_slice_get xs i x x (sym there)))))

  -- and none does
  pub none_found : {t u : List ℕ} (i : ℕ) → slice_get xs i ≡ None → Adds t u (first_pieces piece xs i) → Adds t u (first_pieces piece xs (i + 1))
  none_found i none before =
      elim (slice_get_cases xs i).1 [
        | inl here ↦ cc (here.2, none)
        | inr past ↦ renamed before (ap (flat_map piece) (take_all i xs past.0 ∙ sym (take_all (i + 1) xs (omega (arith, past.0)))))
      ]

  -- all elements have theirs
  pub all_pieces : {t u : List ℕ} (n : ℕ) → length xs ≤ n → Adds t u (first_pieces piece xs n) → Adds t u (flat_map piece xs)
  all_pieces n past added = renamed added (ap (flat_map piece) (take_all n xs past))
