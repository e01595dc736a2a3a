-- The end of a list.
use Rattle.std.specs.Prelude.{◌≡◌, ◌-◌, List, ◌++◌, length, take}

-- the list ends with these
abbrev pub EndsWith : {X : Type 0} → List X → List X → Type 0
EndsWith {X} end xs = (front : List X) × (xs ≡ front ++ end)

-- the list but its last element
abbrev pub without_last : {X : Type 0} → List X → List X
without_last xs = take (length xs - 1) xs
