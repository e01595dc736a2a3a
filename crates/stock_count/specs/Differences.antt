-- How what was counted differs from what was held.
use Rattle.std.specs.Prelude.{ℕ, Bool, ℤ, pos, ◌-ℤ◌, unsigned_abs, nat_lt, List, map, Option}
use Rattle.stock_nums.specs.declared.limits.TheConstants.{MAX_QUANTITY}
use Rattle.stock_nums.specs.declared.moment.Moment.{Moment}
use Rattle.stock_model.specs.declared.records.Record.{Record}
use Rattle.stock_model.specs.Faults.{first_line}
use Rattle.voucher_import.specs.declared.sheet.CountLine.{CountLine}
use Rattle.voucher_import.specs.declared.sheet.CountSheet.{CountSheet}
use Rattle.stock_count.specs.Held.{held}

-- what was counted less what was held: negative where units are missing
abbrev pub difference : List Record → Moment → CountLine → ℤ
difference journal at line = pos line.qty.0 -ℤ held journal line.item line.store at

-- the difference of each line
abbrev pub differences : List Record → CountSheet → List ℤ
differences journal sheet = map (difference journal sheet.at) sheet.lines

-- it is more than the line of a voucher can move: above 10^9 in size
abbrev pub is_wide : ℤ → Bool
is_wide diff = nat_lt MAX_QUANTITY (unsigned_abs diff)

-- the number of the first line with such a difference, from 1
abbrev pub first_wide : List ℤ → Option ℕ
first_wide diffs = first_line is_wide 1 diffs
