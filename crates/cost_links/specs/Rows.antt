-- Rows of movements.
use Rattle.std.specs.Prelude.{pos, List}
use Rattle.stock_nums.specs.declared.entry.Entry.{Entry}
use Rattle.stock_nums.specs.declared.entry.Row.{Row}
use Rattle.stock_nums.specs.declared.numbers.Minor.{Minor}
use Rattle.stock_model.specs.Sums.{units_of, value_of}
use Rattle.stock_model.specs.Values.{cost_by}
use Rattle.cost_formulas.specs.Lots.{Lot}

-- the units of a row and what they are worth
abbrev pub row_lot : Row → Lot
row_lot row = record { units = units_of row; value = value_of row }

-- a movement at what its units cost by its item's formula
abbrev pub costed : List Row → Entry → Minor → Row
costed before e share = record { entry = e; worth = record { value = record { 0 = pos (cost_by e.method before e) }; share = share } }
