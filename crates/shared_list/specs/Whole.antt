-- What is held of a list.
use Rattle.std.specs.Prelude.{ℕ, List, [], take, Option, Some, None}
use Rattle.std.specs.Arc.{arc_value}
use Rattle.std.specs.declared.sync.Arc.{Arc}

-- the items of the list, or none where there is no list
abbrev pub items_of : {T Z : Type 0} → Option (Arc (List T) Z) → List T
items_of (Some whole) = arc_value whole
items_of None = []

-- the first so many items, or all
abbrev pub first_of : {T : Type 0} → Option ℕ → List T → List T
first_of (Some most) items = take most items
first_of None items = items
