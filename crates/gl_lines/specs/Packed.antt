-- How the lines of a movement are kept: those that there are come first.
use Rattle.std.specs.Prelude.{◌≡◌, Option, None}

-- none comes after one that is missing
abbrev pub IsPacked : {X : Type 0} → Option X → Option X → Option X → Type 0
IsPacked first second third = (first ≡ None → second ≡ None) × (second ≡ None → third ≡ None)
