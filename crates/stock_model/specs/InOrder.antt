-- What it means that movements stand in posting order.
use Rattle.std.specs.Prelude.{List, IsTrue, AllPairs}
use Rattle.stock_nums.specs.Places.{is_before}
use Rattle.stock_nums.specs.declared.entry.Entry.{Entry}

-- the first movement comes before the second
abbrev pub IsBefore : Entry → Entry → Type 0
IsBefore a b = IsTrue (is_before a.place b.place)

-- each movement comes before all later ones
abbrev pub IsInPostingOrder : List Entry → Type 0
IsInPostingOrder es = AllPairs IsBefore es
