-- What the clauses of sources and sinks say, beside std's words on known bytes.
use Rattle.std.specs.Prelude.{◌≡◌, ℕ, Option, List, [], ◌∷◌, ◌++◌}
use Rattle.std.specs.Io.KnownBytes.{Appends}

-- the known bytes grew by a front of these bytes
abbrev pub AppendsFront : Option (List ℕ) → Option (List ℕ) → List ℕ → Type 0
AppendsFront old new bytes = (front rest : List ℕ) × (front ++ rest ≡ bytes) × Appends old new front

-- some steps lead from the old state to the new one, through the states between
abbrev pub Through : {S : Type 0} → (S → S → Type 0) → S → List S → S → Type 0
Through step old [] new = new ≡ old
Through step old (state ∷ states) new = step old state × Through step state states new

-- any number of steps lead from the old state to the new one
abbrev pub Chained : {S : Type 0} → (S → S → Type 0) → S → S → Type 0
Chained {S} step old new = (states : List S) × Through step old states new
