-- What is held of an item in a warehouse, by movements that are all of it.
use Rattle.std.specs.Prelude.{ℕ, ◌≡◌, ◌+◌, ◌-◌, ◌≤◌, ◌<◌, ◌^◌, Bool, true, false, not, List, length, take, filter, sum_by, if◌then◌else◌}
use Rattle.std.specs.List.{list_all}
use Rattle.stock_nums.specs.Causes.{is_entering}
use Rattle.stock_nums.specs.declared.entry.Row.{Row}
use Rattle.stock_nums.specs.declared.limits.TheConstants.{MAX_ENTRIES, MAX_VALUE}
use Rattle.stock_model.specs.Bounds.{has_value_in_range}
use Rattle.stock_model.specs.Sums.{units_of, value_of}
use Rattle.valuation_report.specs.declared.holdings.Holding.{Holding}

abbrev pub row_enters : Row → Bool
row_enters row = is_entering row.entry.place.side

abbrev pub row_leaves : Row → Bool
row_leaves row = not (is_entering row.entry.place.side)

-- the units that entered, and those that left
abbrev pub units_in : List Row → ℕ
units_in rows = sum_by units_of (filter row_enters rows)

abbrev pub units_out : List Row → ℕ
units_out rows = sum_by units_of (filter row_leaves rows)

-- what they are worth
abbrev pub worth_in : List Row → ℕ
worth_in rows = sum_by value_of (filter row_enters rows)

abbrev pub worth_out : List Row → ℕ
worth_out rows = sum_by value_of (filter row_leaves rows)

-- what is held
abbrev pub units_held : List Row → ℕ
units_held rows = units_in rows - units_out rows

abbrev pub worth_held : List Row → ℕ
worth_held rows = worth_in rows - worth_out rows

-- the holding after all of the movements
abbrev pub holding_of : List Row → Holding
holding_of rows = record { entered = units_in rows; left = units_out rows; value = worth_held rows }

-- and after one more
abbrev pub next_holding : Holding → Row → Holding
next_holding holding row =
    if row_enters row
    then record { entered = holding.entered + units_of row; left = holding.left; value = holding.value + value_of row }
    else record { entered = holding.entered; left = holding.left + units_of row; value = holding.value - value_of row }

-- one more movement fits
pub record HasRoom (holding : Holding) (row : Row) : Type 0 where
  pub entered : holding.entered + units_of row < 2 ^ 64
  pub left : holding.left + units_of row < 2 ^ 64
  pub value : holding.value + value_of row < 2 ^ 64
  pub held : row_enters row ≡ false → value_of row ≤ holding.value

-- the movements are no more than a journal's, each with a value in range, and at every prefix what is held is worth
-- from 0 to 3 * 10^17
pub record AreHeld (rows : List Row) : Type 0 where
  pub few : length rows ≤ MAX_ENTRIES
  pub in_range : list_all has_value_in_range rows ≡ true
  pub never_negative : (n : ℕ) → worth_out (take n rows) ≤ worth_in (take n rows)
  pub not_large : (n : ℕ) → worth_in (take n rows) ≤ worth_out (take n rows) + MAX_VALUE
