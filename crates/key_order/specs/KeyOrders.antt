-- Changes by item and warehouse, and then in posting order.
use Rattle.std.specs.Prelude.{◌≡◌, Bool, ◌&&◌, ◌||◌, not, List, [], ◌∷◌, filter, if◌then◌else◌, IsTrue, All, AllPairs}
use Rattle.stock_nums.specs.Places.{is_before}
use Rattle.stock_nums.specs.declared.entry.Key.{Key}
use Rattle.stock_nums.specs.declared.place.Place.{Place}
use Rattle.stock_model.specs.Enough.{is_same_key}
use Rattle.stock_model.specs.Sheets.{is_key_before}
use Rattle.key_order.specs.SamePlace.{is_same_place}
use Rattle.key_order.specs.declared.change.Change.{Change}

-- the first change comes before the second
abbrev pub precedes : Change → Change → Bool
precedes a b = is_key_before a.key b.key || (is_same_key a.key b.key && is_before a.place b.place)

-- each change comes before all later ones
abbrev pub AreInKeyOrder : List Change → Type 0
AreInKeyOrder cs = AllPairs (λ a b. IsTrue (precedes a b)) cs

-- the change is of the key and stands at the place
abbrev pub is_change_at : Key → Place → Change → Bool
is_change_at key place c = is_same_key c.key key && is_same_place c.place place

-- no change is of the key and stands at the place
abbrev pub HasNoneAt : List Change → Key → Place → Type 0
HasNoneAt cs key place = All (λ c. c.key ≡ key → c.place ≡ place → ⊥) cs

-- the changes with one more, put before the first that comes after it
abbrev pub put_change : List Change → Change → List Change
put_change [] c = c ∷ []
put_change (d ∷ ds) c = if precedes c d then c ∷ d ∷ ds else d ∷ put_change ds c

-- the changes but the one of the key at the place
abbrev pub without_change : List Change → Key → Place → List Change
without_change cs key place = filter (λ c. not (is_change_at key place c)) cs
