-- What one movement takes over from others, and what it is worth with that.
use Rattle.std.specs.Prelude.{ℕ, ℤ, ◌≡◌, ◌+◌, ◌-◌, ◌≤◌, pos, ◌+ℤ◌, true, false, ◌&&◌, List, Some, unsigned_abs, int_le, if◌then◌else◌}
use Rattle.stock_nums.specs.Causes.{is_entering}
use Rattle.stock_nums.specs.HalfUp.{half_up}
use Rattle.stock_nums.specs.Part.{part}
use Rattle.stock_nums.specs.declared.cause.Cause.{Cause}
use Rattle.stock_nums.specs.declared.cause.Cause.TheVariants.{Receipt, Issue, TransferLeaves, TransferEnters, CustomerReturn, SupplierReturn}
use Rattle.stock_nums.specs.declared.cause.Method.{Method}
use Rattle.stock_nums.specs.declared.cause.Method.TheVariants.{Fifo, Average}
use Rattle.stock_nums.specs.declared.entry.Entry.{Entry}
use Rattle.stock_nums.specs.declared.entry.Row.{Row}
use Rattle.stock_nums.specs.declared.limits.TheConstants.{MAX_UNITS, MAX_VALUE}
use Rattle.stock_model.specs.Enough.{entry_key}
use Rattle.stock_model.specs.LandedCost.{added}
use Rattle.stock_model.specs.Values.{own_line, line_cost, returned_before, fifo_cost}
use Rattle.stock_model.specs.declared.records.Record.{Record}
use Rattle.cost_links.specs.Stocks.{IsAverageOf}
use Rattle.cost_links.specs.Tables.{Held, held_by}
use Rattle.cost_links.specs.declared.values.TakenOver.{TakenOver}

-- what is charged to the movement's line, how many units of its target were returned before, what is held before it at the
-- moving average, and what its units cost first in, first out, or what its source is worth
pub record Taken : Type 0 where
  pub charged : ℕ
  pub back : ℕ
  pub held : Held
  pub linked : ℕ

-- these as numbers
abbrev pub taken_of : TakenOver → Taken
taken_of t =
    record { charged = unsigned_abs t.charged.0; back = t.back.0; held = held_by (Some t.held); linked = unsigned_abs t.linked.0 }

-- what units that leave cost by the item's formula
abbrev pub cost_taken : Method → Held → ℕ → ℕ → ℕ
cost_taken Fifo held linked qty = linked
cost_taken Average held linked qty = half_up held.value qty held.units

-- what the movement is worth
abbrev pub value_taken : Taken → Entry → Cause → ℤ
value_taken t e (Receipt amount) = amount.0 +ℤ pos t.charged
value_taken t e (Issue sold) = pos (cost_taken e.method t.held t.linked e.qty.0)
value_taken t e TransferLeaves = pos (cost_taken e.method t.held t.linked e.qty.0)
value_taken t e TransferEnters = pos t.linked
value_taken t e (CustomerReturn target issued) = pos (part t.linked t.back e.qty.0 issued.0)
value_taken t e (SupplierReturn target amount received) = pos (cost_taken e.method t.held t.linked e.qty.0)

-- the landed charges within a receipt's value, or the part of the purchase price of what goes back to a supplier
abbrev pub share_taken : Taken → Entry → Cause → ℤ
share_taken t e (Receipt amount) = pos t.charged
share_taken t e (SupplierReturn target amount received) = pos (part (unsigned_abs amount.0) t.back e.qty.0 received.0)
share_taken t e _ = pos 0

-- what is held after units that enter. First in, first out nothing is held at the moving average
abbrev pub held_entered : Method → Held → ℕ → ℕ → Held
held_entered Fifo held qty value = record { units = 0; value = 0 }
held_entered Average held qty value = record { units = held.units + qty; value = held.value + value }

-- and after units that leave
abbrev pub held_left : Method → Held → ℕ → Held
held_left Fifo held qty = record { units = 0; value = 0 }
held_left Average held qty = record { units = held.units - qty; value = held.value - half_up held.value qty held.units }

-- and after the movement
abbrev pub held_after : Taken → Entry → Held
held_after t e =
    if is_entering e.place.side then held_entered e.method t.held e.qty.0 (unsigned_abs (value_taken t e e.cause)) else held_left e.method t.held e.qty.0

-- where the movement is a return, so many units of its target were left
abbrev pub HasUnitsBackBy : Taken → Entry → Cause → Type 0
HasUnitsBackBy t e (CustomerReturn target issued) = t.back + e.qty.0 ≤ issued.0
HasUnitsBackBy t e (SupplierReturn target amount received) = t.back + e.qty.0 ≤ received.0
HasUnitsBackBy t e _ = Unit {0}

-- what is taken over and what comes of it are in range, and there are the units that the movement takes
pub record CanBeTaken (t : Taken) (e : Entry) : Type 0 where
  pub few : t.charged ≤ MAX_VALUE
  pub small : t.linked ≤ MAX_VALUE
  pub in_range : (int_le (pos 0) (value_taken t e e.cause) && int_le (value_taken t e e.cause) (pos MAX_VALUE)) ≡ true
  pub left : HasUnitsBackBy t e e.cause
  pub enough : is_entering e.place.side ≡ false → e.method ≡ Average → e.qty.0 ≤ t.held.units
  pub units_fit : is_entering e.place.side ≡ true → e.method ≡ Average → t.held.units + e.qty.0 ≤ MAX_UNITS
  pub value_fits : is_entering e.place.side ≡ true → e.method ≡ Average → t.held.value + unsigned_abs (value_taken t e e.cause) ≤ MAX_VALUE

-- what its units cost first in, first out, is what the rows before it say
abbrev pub IsCostOf : Method → List Row → Entry → ℕ → Type 0
IsCostOf Fifo before e linked = linked ≡ fifo_cost before e
IsCostOf Average before e linked = Unit {0}

-- and what its source is worth
abbrev pub IsLinkedBy : List Row → Entry → ℕ → Cause → Type 0
IsLinkedBy before e linked (Receipt amount) = Unit {0}
IsLinkedBy before e linked TransferEnters = linked ≡ line_cost before (own_line e)
IsLinkedBy before e linked (CustomerReturn target issued) = linked ≡ line_cost before target
IsLinkedBy before e linked _ = IsCostOf e.method before e linked

-- and how many units of its target were returned
abbrev pub IsBackBy : List Row → ℕ → Cause → Type 0
IsBackBy before back (CustomerReturn target issued) = back ≡ returned_before before target
IsBackBy before back (SupplierReturn target amount received) = back ≡ returned_before before target
IsBackBy before back _ = Unit {0}

-- what is taken over is what the journal's records and the rows before the movement say
pub record IsTakenFrom (journal : List Record) (before : List Row) (e : Entry) (t : Taken) : Type 0 where
  pub charges : t.charged ≡ added journal (own_line e)
  pub returns : IsBackBy before t.back e.cause
  pub average : e.method ≡ Average → IsAverageOf before (entry_key e) t.held
  pub source : IsLinkedBy before e t.linked e.cause
