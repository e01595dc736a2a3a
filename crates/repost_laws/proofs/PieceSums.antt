-- The pieces that units are taken from make up what the units cost first in, first out.
use Rattle.std.proofs.Common.{◌≡◌, ℕ, ◌+◌, ◌-◌, ◌*◌, ◌/◌, ◌<◌, ◌≤◌, Bool, true, false, cond, min, List, [], ◌∷◌, filter, map, sum_by, inl, inr, refl, sym, ap, ◌∙◌, arith}
use Rattle.std.specs.List.{All}
use Rattle.std.proofs.lemmas.Bool.{cases_lt}
use Rattle.std.proofs.lemmas.Bool.Decides.{nat_tests}
use Rattle.std.proofs.lemmas.List.Elements.{All-head, All-tail}
use Rattle.std.proofs.lemmas.List.Sums.{sum_by-cons}
use Rattle.stock_nums.specs.FirstIn.{first_cost, next_cost}
use Rattle.stock_nums.specs.Part.{part}
use Rattle.stock_nums.proofs.FirstIn.{first_cost-whole, first_cost-within, first_cost-none}
use Rattle.stock_nums.proofs.PartLemmas.{share-mono, share-all, part-none, part-all}
use Rattle.repost_laws.specs.Pieces.{Piece, pieces, whole, has_units, piece_value}

module _ {X : Type 0} (units value : X → ℕ) where
  -- pieces without units are worth nothing
  pub sum_by-has_units : (taken : List (Piece X)) → sum_by (piece_value units value) (filter has_units taken)
      ≡ sum_by (piece_value units value) taken
  sum_by-has_units [] = refl
  sum_by-has_units (piece ∷ taken) = by_cases (has_units piece) refl (sum_by-has_units taken)
    where
      by_cases : (b : Bool) → has_units piece ≡ b → sum_by (piece_value units value) (filter has_units taken)
          ≡ sum_by (piece_value units value) taken
          → sum_by (piece_value units value) (cond b (piece ∷ filter has_units taken) (filter has_units taken))
          ≡ sum_by (piece_value units value) (piece ∷ taken)
      by_cases true is rest =
          sum_by-cons (piece_value units value) piece (filter has_units taken)
          ∙ ap (λ (n : ℕ). piece_value units value piece + n) rest
          ∙ sym (sum_by-cons (piece_value units value) piece taken)
      by_cases false is rest =
          let none : piece.among ≡ 0 = grind (arith, nat_tests) in
          let nothing : piece_value units value piece ≡ 0 =
          ap (λ (n : ℕ). part (value piece.giver) piece.before n (units piece.giver)) none
          ∙ part-none (value piece.giver) piece.before (units piece.giver) in
          omega (arith, rest, sum_by-cons (piece_value units value) piece taken, nothing)

  -- the first units cost the share of the first element's that are among them, and what those after it cost
  pub first_cost-cons : (e : X) (es : List X) (x : ℕ) → 0 < units e → All (λ f. 0 < units f) es
      → first_cost units value (e ∷ es) x ≡ value e * min (units e) x / units e + first_cost units value es (x - units e)
  first_cost-cons e es x some rest =
      elim (cases_lt x (units e)) [
        | inl within ↦
            let least : min (units e) x ≡ x = omega arith in
            let share : value e * min (units e) x / units e ≡ value e * x / units e = ap
            (λ (n : ℕ). value e * n / units e) least in
            let none : first_cost units value es (x - units e) ≡ 0 = ap (first_cost units value es) (omega arith)
            ∙ first_cost-none units value es rest in
            omega (arith, first_cost-within units value e es x within, share, none)
        | inr all ↦
            let least : min (units e) x ≡ units e = omega arith in
            let share : value e * min (units e) x / units e ≡ value e = ap (λ (n : ℕ). value e * n / units e) least
            ∙ share-all (value e) (units e) some in
            omega (arith, first_cost-whole units value e es x all, share)
      ]

  -- a piece between two numbers is worth the difference of the shares
  piece-share : (T W from until : ℕ) → 0 < W → from ≤ until
      → T * min W from / W + part T (min W from) (min W until - min W from) W ≡ T * min W until / W
  piece-share T W from until some less =
      let more : min W from ≤ min W until = omega arith in
      let sum : min W from + (min W until - min W from) ≡ min W until = omega (arith, more) in
      let ends : part T (min W from) (min W until - min W from) W ≡ T * min W until / W - T * min W from / W =
      ap (λ (n : ℕ). T * n / W - T * min W from / W) sum in
      omega (arith, ends, share-mono T (min W from) (min W until) W some more)

  -- what the pieces are worth, after what the units before them cost
  pub pieces-first_cost : (es : List X) (from until : ℕ) → All (λ e. 0 < units e) es → from ≤ until
      → sum_by (piece_value units value) (pieces units es from until) + first_cost units value es from
      ≡ first_cost units value es until
  pieces-first_cost [] from until some less = refl
  pieces-first_cost (e ∷ es) from until some less =
      let own = All-head (λ f. 0 < units f) e es some in
      let others = All-tail (λ f. 0 < units f) e es some in
      let piece : Piece X = record { giver = e; before = min (units e) from; among = min (units e) until - min (units e) from } in
      let rest = pieces-first_cost es (from - units e) (until - units e) others (omega (arith, less)) in
      omega (
        arith,
        first_cost-cons e es from own others,
        first_cost-cons e es until own others,
        sum_by-cons (piece_value units value) piece (pieces units es (from - units e) (until - units e)),
        piece-share (value e) (units e) from until own less,
        rest,
      )

  pub pieces-next_cost : (es : List X) (taken q : ℕ) → All (λ e. 0 < units e) es
      → sum_by (piece_value units value) (filter has_units (pieces units es taken (taken + q))) ≡ next_cost units value es taken q
  pieces-next_cost es taken q some =
      omega (
        arith,
        sum_by-has_units (pieces units es taken (taken + q)),
        pieces-first_cost es taken (taken + q) some
            (omega arith),
      )

  -- whole elements are worth what they are worth
  pub sum_by-whole : ((e : X) → 0 < units e) → (es : List X) → sum_by (piece_value units value) (map (whole units) es)
      ≡ sum_by value es
  sum_by-whole some [] = refl
  sum_by-whole some (e ∷ es) =
      omega (
        arith,
        sum_by-cons (piece_value units value) (whole units e)
            (map (whole units) es),
        sum_by-cons value e es,
        part-all (value e) (units e) (some e),
        sum_by-whole some es,
      )
