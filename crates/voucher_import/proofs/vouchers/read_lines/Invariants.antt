-- The rows so far are right, and the lines are what they say.
use Rattle.std.proofs.Common.{◌≤◌, length, take}
use Rattle.std.specs.List.{AllZip}
use Rattle.stock_nums.specs.declared.limits.TheConstants.{MAX_LINES}
use Rattle.voucher_import.specs.Reading.{rows_in}
use Rattle.voucher_import.specs.Sheets.{AreRightBelow}
use Rattle.voucher_import.proofs.vouchers.read_lines.Given as goal

abbrev pub invariant-loop-place : goal.invariant-loop-place
invariant-loop-place g l = record {
  are : AllZip g.L.RowLine.is_line (take l.place (rows_in l.run)) l.lines;
  right : AreRightBelow (rows_in l.run) l.place;
  few : length l.lines ≤ MAX_LINES;
}
