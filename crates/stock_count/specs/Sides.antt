-- What entered and what left, as it is summed.
use Rattle.std.specs.Prelude.{ℕ, ℤ, pos, Bool, List, filter, sum_by}
use Rattle.std.specs.Option.{option_map_or}
use Rattle.stock_nums.specs.declared.entry.Entry.{Entry}
use Rattle.stock_nums.specs.declared.entry.Key.{Key}
use Rattle.stock_nums.specs.declared.place.Side.{Side}
use Rattle.stock_nums.specs.declared.place.Side.TheVariants.{Leaves, Enters}
use Rattle.stock_model.specs.declared.records.Record.{Record}
use Rattle.stock_model.specs.Enough.{enters_under, leaves_under, entry_units}
use Rattle.stock_count.specs.Held.{held_of, key_with}

-- the movement is of this item in this warehouse, and enters or leaves, by the side
abbrev pub is_of_side : Key → Side → Entry → Bool
is_of_side key Enters e = enters_under key e
is_of_side key Leaves e = leaves_under key e

-- what entered or what left, by the side
abbrev pub side_units : List Entry → Key → Side → ℕ
side_units es key side = sum_by entry_units (filter (is_of_side key side) es)

-- what is held by these movements of the item and the warehouse with these codes, 0 where the journal lacks one
abbrev pub held_among : List Record → List Entry → List ℕ → List ℕ → ℤ
held_among journal es item store = option_map_or (held_of es) (key_with journal item store) (pos 0)
