-- The rows so far, and those to come.
use Rattle.std.proofs.Common.{◌≡◌, ◌++◌}
use Rattle.valuation_report.proofs.account_sheet.in_one_piece.Given as goal

abbrev pub invariant-loop-row : goal.invariant-loop-row
invariant-loop-row l = l.whole.items ++ l.row-iterator ≡ l.rows
