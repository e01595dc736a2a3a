-- All rows so far are up to the moment.
use Rattle.std.proofs.Common.{◌≡◌, ℕ, ◌<◌, ◌≤◌, true, Some, length, get_or, drop}
use Rattle.stock_nums.specs.declared.entry.Row.{Row}
use Rattle.stock_model.specs.Reports.{is_until}
use Rattle.report_selection.proofs.until.count_until.Given as goal

abbrev pub invariant-loop-row : goal.invariant-loop-row
invariant-loop-row l = record {
  within : l.count ≤ length l.rows;
  stands : l.row-iterator ≡ drop l.count l.rows;
  passed : (j : ℕ) (d : Row) → j < l.count → is_until (Some l.until) (get_or l.rows j d) ≡ true;
}
