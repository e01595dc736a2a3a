-- Plain sums over the rows of an item in a warehouse, and what units that leave cost by them.
use Rattle.std.specs.Prelude.{ℕ, ◌≡◌, ◌+◌, ◌-◌, ◌^◌, ◌<◌, ◌≤◌, true, List, [], ◌∷◌, ◌++◌, length, take, filter, sum_by, if◌then◌else◌}
use Rattle.std.specs.List.{list_all}
use Rattle.stock_nums.specs.Causes.{is_entering}
use Rattle.stock_nums.specs.FirstIn.{next_cost}
use Rattle.stock_nums.specs.HalfUp.{half_up}
use Rattle.stock_nums.specs.declared.cause.Method.{Method}
use Rattle.stock_nums.specs.declared.cause.Method.TheVariants.{Fifo, Average}
use Rattle.stock_nums.specs.declared.entry.Key.{Key}
use Rattle.stock_nums.specs.declared.entry.Row.{Row}
use Rattle.stock_nums.specs.declared.limits.TheConstants.{MAX_ENTRIES, MAX_UNITS, MAX_VALUE}
use Rattle.stock_model.specs.Bounds.{has_value_in_range}
use Rattle.stock_model.specs.Sums.{enters_at, units_of, value_of, quantity_in, quantity_out, value_in, value_out}

-- what entered, and what entered and left together
pub record Sums : Type 0 where
  pub entered : List Row
  pub units_in : ℕ
  pub units_out : ℕ
  pub value_in : ℕ
  pub value_out : ℕ

-- nothing moved
abbrev pub nothing : Sums
nothing = record { entered = []; units_in = 0; units_out = 0; value_in = 0; value_out = 0 }

-- and with one more row on its side
abbrev pub with_row : Sums → Row → Sums
with_row moved row =
    if is_entering row.entry.place.side
    then record {
      entered = moved.entered ++ row ∷ [];
      units_in = moved.units_in + units_of row;
      units_out = moved.units_out;
      value_in = moved.value_in + value_of row;
      value_out = moved.value_out;
    }
    else record {
      entered = moved.entered;
      units_in = moved.units_in;
      units_out = moved.units_out + units_of row;
      value_in = moved.value_in;
      value_out = moved.value_out + value_of row;
    }

-- what so many more units cost by the formula
abbrev pub cost_of : Method → Sums → ℕ → ℕ
cost_of Fifo moved q = next_cost units_of value_of moved.entered moved.units_out q
cost_of Average moved q = half_up (moved.value_in - moved.value_out) q (moved.units_in - moved.units_out)

-- the sums have room for the row
pub record HasRoom (moved : Sums) (row : Row) : Type 0 where
  pub units_in : moved.units_in + units_of row < 2 ^ 128
  pub units_out : moved.units_out + units_of row < 2 ^ 127
  pub value_in : moved.value_in + value_of row < 2 ^ 128
  pub value_out : moved.value_out + value_of row < 2 ^ 128

-- of the rows that entered the first so many, with so many units, are gone as a whole
pub record AreGone (entered : List Row) (gone gone_units out : ℕ) : Type 0 where
  pub within : gone ≤ length entered
  pub units : gone_units ≡ sum_by units_of (take gone entered)
  pub left : gone_units ≤ out

-- so many units are held, and they are worth what they can be
pub record HasCost (method : Method) (moved : Sums) (q : ℕ) : Type 0 where
  pub some : 0 < q
  pub held : q ≤ moved.units_in - moved.units_out
  pub few_units : moved.units_in - moved.units_out ≤ MAX_UNITS
  pub few_out : moved.units_out ≤ MAX_UNITS
  pub no_less : moved.value_out ≤ moved.value_in
  pub small : moved.value_in - moved.value_out ≤ MAX_VALUE
  pub few : length moved.entered ≤ MAX_ENTRIES
  pub in_range : list_all has_value_in_range moved.entered ≡ true
  pub fits : cost_of method moved q ≤ MAX_VALUE

-- the sums over the rows of an item in a warehouse
abbrev pub moved_of : List Row → Key → Sums
moved_of rows key =
    record {
      entered = filter (enters_at key) rows;
      units_in = quantity_in rows key;
      units_out = quantity_out rows key;
      value_in = value_in rows key;
      value_out = value_out rows key;
    }
