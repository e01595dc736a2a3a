-- The cost formula of an item in a warehouse, as its rows have it.
use Rattle.std.specs.Prelude.{◌≡◌, Bool, true, false, not, ◌||◌, List}
use Rattle.std.specs.List.{list_all}
use Rattle.stock_nums.specs.declared.cause.Method.{Method}
use Rattle.stock_nums.specs.declared.cause.Method.TheVariants.{Fifo, Average}
use Rattle.stock_nums.specs.declared.entry.Key.{Key}
use Rattle.stock_nums.specs.declared.entry.Row.{Row}
use Rattle.stock_model.specs.Sums.{is_of}

abbrev pub is_same_method : Method → Method → Bool
is_same_method Fifo Fifo = true
is_same_method Average Average = true
is_same_method Fifo Average = false
is_same_method Average Fifo = false

-- the row has this formula, or is of another item or warehouse
abbrev pub has_formula : Method → Key → Row → Bool
has_formula method key row = not (is_of key row) || is_same_method row.entry.method method

-- all rows of this item in this warehouse have this formula
abbrev pub HasFormulaAt : Method → List Row → Key → Type 0
HasFormulaAt method rows key = list_all (has_formula method key) rows ≡ true
