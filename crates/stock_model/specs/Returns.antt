-- How many units of a line of an earlier voucher were returned.
use Rattle.std.specs.Prelude.{ℕ, Bool, false, List, filter, sum_by}
use Rattle.stock_nums.specs.Targets.{is_same_target}
use Rattle.stock_nums.specs.declared.cause.Cause.{Cause}
use Rattle.stock_nums.specs.declared.cause.Cause.TheVariants.{CustomerReturn, SupplierReturn}
use Rattle.stock_nums.specs.declared.cause.Target.{Target}
use Rattle.stock_nums.specs.declared.entry.Entry.{Entry}
use Rattle.stock_model.specs.Enough.{entry_units}
use Rattle.stock_model.specs.VoucherLines.{Subject, Coded, OfTarget, VoucherLine}

-- the cause is a return of this line
abbrev pub is_return_of : Target → Cause → Bool
is_return_of target (CustomerReturn line issued) = is_same_target line target
is_return_of target (SupplierReturn line amount received) = is_same_target line target
is_return_of target _ = false

abbrev pub returns_of : Target → Entry → Bool
returns_of target e = is_return_of target e.cause

-- the units of the line that these movements return
abbrev pub returned : List Entry → Target → ℕ
returned es target = sum_by entry_units (filter (returns_of target) es)

-- the item is that of this line of an earlier voucher
abbrev pub is_target_of : Target → Subject → Bool
is_target_of target (Coded code) = false
is_target_of target (OfTarget named) = is_same_target named.target target

abbrev pub returns_line : Target → VoucherLine → Bool
returns_line target line = is_target_of target line.item

abbrev pub line_units : VoucherLine → ℕ
line_units line = line.qty.0

-- how many units of the line these lines return
abbrev pub units_named : List VoucherLine → Target → ℕ
units_named lines target = sum_by line_units (filter (returns_line target) lines)
