-- What entered and what left, of one item in one warehouse.
use Rattle.std.specs.Prelude.{ℕ, ◌-◌, Bool, List, filter, sum_by, unsigned_abs}
use Rattle.stock_nums.specs.declared.entry.Entry.{Entry}
use Rattle.stock_nums.specs.declared.entry.Key.{Key}
use Rattle.stock_nums.specs.declared.entry.Row.{Row}
use Rattle.stock_model.specs.Enough.{is_of_key, enters_under, leaves_under, entry_units}

abbrev pub row_entry : Row → Entry
row_entry row = row.entry

-- the row's movement is of this item in this warehouse
abbrev pub is_of : Key → Row → Bool
is_of key row = is_of_key key row.entry

-- and enters, or leaves
abbrev pub enters_at : Key → Row → Bool
enters_at key row = enters_under key row.entry

abbrev pub leaves_at : Key → Row → Bool
leaves_at key row = leaves_under key row.entry

abbrev pub units_of : Row → ℕ
units_of row = entry_units row.entry

-- the value of a movement, which is never negative
abbrev pub value_of : Row → ℕ
value_of row = unsigned_abs row.worth.value.0

abbrev pub quantity_in : List Row → Key → ℕ
quantity_in rows key = sum_by units_of (filter (enters_at key) rows)

abbrev pub quantity_out : List Row → Key → ℕ
quantity_out rows key = sum_by units_of (filter (leaves_at key) rows)

abbrev pub value_in : List Row → Key → ℕ
value_in rows key = sum_by value_of (filter (enters_at key) rows)

abbrev pub value_out : List Row → Key → ℕ
value_out rows key = sum_by value_of (filter (leaves_at key) rows)

-- the units of an item that a warehouse holds: what entered less what left
abbrev pub stock_units : List Row → Key → ℕ
stock_units rows key = quantity_in rows key - quantity_out rows key

-- what they are worth together
abbrev pub stock_value : List Row → Key → ℕ
stock_value rows key = value_in rows key - value_out rows key
