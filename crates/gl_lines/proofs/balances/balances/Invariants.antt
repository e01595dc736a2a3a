use Rattle.std.proofs.Common.{◌*◌, ◌≤◌, length, take}
use Rattle.stock_model.specs.LedgerLines.{all_lines}
use Rattle.gl_lines.specs.StoreAccounts.{AreAccountsOf}
use Rattle.gl_lines.specs.Totals.{AreTotals}
use Rattle.gl_lines.proofs.balances.balances.Given as goal

abbrev pub invariant-loop-row : goal.invariant-loop-row
invariant-loop-row l =
    AreAccountsOf l.accounts.by_number l.heads ×
    AreTotals l.totals.by_account (all_lines l.heads (take l.row-index l.rows)) ×
    (length (all_lines l.heads (take l.row-index l.rows)) ≤ 3 * l.row-index)
