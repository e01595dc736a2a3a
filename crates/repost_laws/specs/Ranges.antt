-- Units of an item in a warehouse, numbered as they entered and as they left: what leaves first in, first out takes the
-- units with its own numbers.
use Rattle.std.specs.Prelude.{ℕ, ◌≡◌, ◌+◌, ◌<◌, true, List}
use Rattle.stock_nums.specs.declared.entry.Entry.{Entry}
use Rattle.stock_model.specs.Enough.{entry_key, enters_under, entered, departed}
use Rattle.repost_laws.specs.Valuations.{earlier}

-- how many units of its item entered its warehouse before the movement, and how many left
abbrev pub units_in_before : List Entry → Entry → ℕ
units_in_before line e = entered (earlier line e) (entry_key e)

abbrev pub units_out_before : List Entry → Entry → ℕ
units_out_before line e = departed (earlier line e) (entry_key e)

-- the first movement entered, of the item and the warehouse of the second, and a unit that it brought has the number of one
-- that the second takes
pub record RangesMeet (line : List Entry) (g e : Entry) : Type 0 where
  pub enters : enters_under (entry_key e) g ≡ true
  pub begins : units_in_before line g < units_out_before line e + e.qty.0
  pub ends : units_out_before line e < units_in_before line g + g.qty.0
