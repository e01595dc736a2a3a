-- Units that are numbered as they came, and which of them each element of a list brought.
use Rattle.std.specs.Prelude.{ℕ, ◌-◌, Bool, List, [], ◌∷◌, nat_lt, min}
use Rattle.stock_nums.specs.Part.{part}

-- some of the units that one element brought: how many of its units come before them, and how many they are
pub record Piece (X : Type 0) : Type 0 where
  pub giver : X
  pub before : ℕ
  pub among : ℕ

-- of each element those of its units that have a number from this one until that one, where the first unit has number 0
abbrev pub pieces : {X : Type 0} → (X → ℕ) → List X → ℕ → ℕ → List (Piece X)
pieces units [] from until = []
pieces units (e ∷ es) from until =
    record { giver = e; before = min (units e) from; among = min (units e) until - min (units e) from }
    ∷ pieces units es (from - units e) (until - units e)

-- all units of an element
abbrev pub whole : {X : Type 0} → (X → ℕ) → X → Piece X
whole units e = record { giver = e; before = 0; among = units e }

-- there are units in the piece
abbrev pub has_units : {X : Type 0} → Piece X → Bool
has_units piece = nat_lt 0 piece.among

-- the part of what the element is worth that falls to the piece
abbrev pub piece_value : {X : Type 0} → (X → ℕ) → (X → ℕ) → Piece X → ℕ
piece_value units value piece = part (value piece.giver) piece.before piece.among (units piece.giver)
