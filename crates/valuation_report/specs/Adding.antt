-- What it means that a text grew.
use Rattle.std.specs.Prelude.{◌≡◌, ℕ, List, ◌++◌}

-- the new text is the old one and this piece after it
pub record Adds (old new piece : List ℕ) : Type 0 where
  pub is : new ≡ old ++ piece
