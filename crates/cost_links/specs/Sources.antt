-- Which line a movement returns units of, and what comes before a place.
use Rattle.std.specs.Prelude.{ℕ, Bool, ◌||◌, List, filter, sum_by, Option, Some, None}
use Rattle.stock_nums.specs.Places.{is_before}
use Rattle.stock_nums.specs.declared.cause.Cause.{Cause}
use Rattle.stock_nums.specs.declared.cause.Cause.TheVariants.{CustomerReturn, SupplierReturn}
use Rattle.stock_nums.specs.declared.cause.Target.{Target}
use Rattle.stock_nums.specs.declared.entry.Entry.{Entry}
use Rattle.stock_nums.specs.declared.place.Place.{Place}
use Rattle.stock_model.specs.Enough.{entry_units}

-- the line of which a return returns units
abbrev pub target_of : Cause → Option Target
target_of (CustomerReturn target issued) = Some target
target_of (SupplierReturn target amount received) = Some target
target_of _ = None

abbrev pub entry_place : Entry → Place
entry_place e = e.place

-- the movement comes before the place
abbrev pub comes_before : Place → Entry → Bool
comes_before place e = is_before e.place place

-- the movement stands at another place: it comes before it, or after it
abbrev pub is_elsewhere : Place → Entry → Bool
is_elsewhere place e = is_before e.place place || is_before place e.place

-- the movements but the one at the place of this one
abbrev pub left_by : List Entry → Entry → List Entry
left_by es e = filter (is_elsewhere e.place) es

-- how many units have those of the movements that come before the place
abbrev pub units_before : Place → List Entry → ℕ
units_before place es = sum_by entry_units (filter (comes_before place) es)
