-- Words that may be a value.
use Rattle.std.specs.Prelude.{ℕ, ◌≢◌, List, [], ◌∷◌}

-- a word that may be the value after an option: it has a byte, and where it has more than one it is no option
abbrev pub IsPath : List ℕ → Type 0
IsPath [] = ⊥
IsPath (byte ∷ []) = Unit {0}
IsPath (byte ∷ next ∷ rest) = byte ≢ 45
