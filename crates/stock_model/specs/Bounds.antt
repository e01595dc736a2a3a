-- How large the numbers of valued movements can be.
use Rattle.std.specs.Prelude.{ℕ, ◌≡◌, ◌+◌, ◌≤◌, true, Bool, ◌&&◌, List, length, take, pos, int_le}
use Rattle.std.specs.List.{list_all}
use Rattle.stock_nums.specs.declared.entry.Key.{Key}
use Rattle.stock_nums.specs.declared.entry.Row.{Row}
use Rattle.stock_nums.specs.declared.limits.TheConstants.{MAX_ENTRIES, MAX_VALUE}
use Rattle.stock_model.specs.Sums.{value_in, value_out}

-- the row's value is from 0 to 3 * 10^17 minor units
abbrev pub has_value_in_range : Row → Bool
has_value_in_range row = int_le (pos 0) row.worth.value.0 && int_le row.worth.value.0 (pos MAX_VALUE)

-- no more rows than a journal holds movements, each with a value in range, and at every prefix the stock of each
-- item in each warehouse is worth from 0 to 3 * 10^17
pub record AreBounded (rows : List Row) : Type 0 where
  pub few : length rows ≤ MAX_ENTRIES
  pub in_range : list_all has_value_in_range rows ≡ true
  pub never_negative : (n : ℕ) (key : Key) → value_out (take n rows) key ≤ value_in (take n rows) key
  pub not_large : (n : ℕ) (key : Key) → value_in (take n rows) key ≤ value_out (take n rows) key + MAX_VALUE
