-- No two movements at one place.
use Rattle.std.specs.Prelude.{◌≡◌, List, AllPairs}
use Rattle.stock_nums.specs.declared.entry.Entry.{Entry}

-- the two movements stand at different places
abbrev pub StandApart : Entry → Entry → Type 0
StandApart a b = a.place ≡ b.place → ⊥

-- each movement has a place of its own
abbrev pub HaveOwnPlaces : List Entry → Type 0
HaveOwnPlaces es = AllPairs StandApart es
