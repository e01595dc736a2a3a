-- The map has what is held by the rows so far that are asked for.
use Rattle.std.proofs.Common.{◌≡◌, ℕ, filter, take, drop}
use Rattle.valuation_report.specs.Grouping.{IsHeldByKey, is_asked_row}
use Rattle.valuation_report.proofs.balance_sheet.holdings_by_key.Given as goal

abbrev pub invariant-loop-row : goal.invariant-loop-row
invariant-loop-row l =
    (seen : ℕ) × (l.row-iterator ≡ drop seen l.rows)
    × IsHeldByKey l.by_key (filter (is_asked_row l.query l.heads) (take seen l.rows))
