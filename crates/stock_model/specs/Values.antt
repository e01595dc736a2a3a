-- What a movement is worth, found from the movements before it in posting order, and from what a journal charges.
use Rattle.std.specs.Prelude.{ℕ, ℤ, ◌+◌, ◌≤◌, pos, ◌+ℤ◌, Bool, ◌&&◌, List, map, filter, sum_by, IsTrue, not, unsigned_abs}
use Rattle.stock_nums.specs.Causes.{is_entering}
use Rattle.stock_nums.specs.declared.cause.Cause.{Cause}
use Rattle.stock_nums.specs.declared.cause.Cause.TheVariants.{Receipt, Issue, TransferLeaves, TransferEnters, CustomerReturn, SupplierReturn}
use Rattle.stock_nums.specs.declared.cause.Target.{Target}
use Rattle.stock_nums.specs.declared.entry.Entry.{Entry}
use Rattle.stock_nums.specs.declared.entry.Row.{Row}
use Rattle.stock_nums.specs.declared.cause.Method.{Method}
use Rattle.stock_nums.specs.declared.cause.Method.TheVariants.{Fifo, Average}
use Rattle.stock_nums.specs.FirstIn.{next_cost}
use Rattle.stock_nums.specs.HalfUp.{half_up}
use Rattle.stock_nums.specs.Part.{part}
use Rattle.stock_nums.specs.Targets.{is_same_target}
use Rattle.stock_model.specs.declared.records.Record.{Record}
use Rattle.stock_model.specs.Enough.{entry_key}
use Rattle.stock_model.specs.LandedCost.{added}
use Rattle.stock_model.specs.Returns.{returned}
use Rattle.stock_model.specs.Sums.{row_entry, enters_at, units_of, value_of, quantity_out, stock_units, stock_value}

-- what the movement's units cost at the moving average of those that its warehouse holds (IAS 2.25 and 27)
abbrev pub average_cost : List Row → Entry → ℕ
average_cost before e = half_up (stock_value before (entry_key e)) e.qty.0 (stock_units before (entry_key e))

-- what they cost first in, first out: what the next units of those that entered cost, after all that left (IAS 2.25 and 27)
abbrev pub fifo_cost : List Row → Entry → ℕ
fifo_cost before e = next_cost units_of value_of (filter (enters_at (entry_key e)) before) (quantity_out before (entry_key e)) e.qty.0

-- what they cost by the item's formula
abbrev pub cost_by : Method → List Row → Entry → ℕ
cost_by Fifo before e = fifo_cost before e
cost_by Average before e = average_cost before e

abbrev pub cost : List Row → Entry → ℕ
cost before e = cost_by e.method before e

-- the line of a voucher that the movement is of
abbrev pub own_line : Entry → Target
own_line e = record { voucher = e.place.voucher; line = e.place.line }

-- the row is of this line, and leaves
abbrev pub leaves_by : Target → Row → Bool
leaves_by target row = is_same_target (own_line row.entry) target && not (is_entering row.entry.place.side)

-- what the units that left by the line cost: a line has one movement that leaves, at most
abbrev pub line_cost : List Row → Target → ℕ
line_cost before target = sum_by value_of (filter (leaves_by target) before)

-- how many units of the line were returned before
abbrev pub returned_before : List Row → Target → ℕ
returned_before before target = returned (map row_entry before) target

-- what is received is worth its purchase price and landed charges (IAS 2.10 and 11), what leaves what its units cost,
-- what enters by a transfer what left by the same line, and what a customer returns its part of what the issue's line cost
abbrev pub value_by : List Record → List Row → Entry → Cause → ℤ
value_by journal before e (Receipt amount) = amount.0 +ℤ pos (added journal (own_line e))
value_by journal before e (Issue sold) = pos (cost before e)
value_by journal before e TransferLeaves = pos (cost before e)
value_by journal before e TransferEnters = pos (line_cost before (own_line e))
value_by journal before e (CustomerReturn target issued) = pos (part (line_cost before target) (returned_before before target) e.qty.0 issued.0)
value_by journal before e (SupplierReturn target amount received) = pos (cost before e)

-- the landed charges within a receipt's value, or the part of the purchase price of what goes back to a supplier
abbrev pub share_by : List Record → List Row → Entry → Cause → ℤ
share_by journal before e (Receipt amount) = pos (added journal (own_line e))
share_by journal before e (SupplierReturn target amount received) = pos (part (unsigned_abs amount.0) (returned_before before target) e.qty.0 received.0)
share_by journal before e _ = pos 0

-- where the movement leaves, its warehouse holds its units
abbrev pub HasUnits : List Row → Entry → Type 0
HasUnits before e = IsTrue (not (is_entering e.place.side)) → e.qty.0 ≤ stock_units before (entry_key e)

-- where the movement is a return, so many units of its target were left
abbrev pub HasUnitsLeftBy : List Row → Entry → Cause → Type 0
HasUnitsLeftBy before e (CustomerReturn target issued) = returned_before before target + e.qty.0 ≤ issued.0
HasUnitsLeftBy before e (SupplierReturn target amount received) = returned_before before target + e.qty.0 ≤ received.0
HasUnitsLeftBy before e _ = Unit {0}

abbrev pub HasUnitsLeft : List Row → Entry → Type 0
HasUnitsLeft before e = HasUnitsLeftBy before e e.cause
