-- The pieces of the accounts are those of the sheet.
use Rattle.std.proofs.Common.{List, ap, ◌∙◌}
use Rattle.std.specs.List.{flat_map}
use Rattle.stock_nums.specs.declared.head.Head.{Head}
use Rattle.stock_model.specs.Accounts.{balances}
use Rattle.valuation_report.specs.AccountPieces.{account_piece}
use Rattle.valuation_report.proofs.AccountReports.{of_accounts}
use Rattle.valuation_report.proofs.Reports.{reported}
use Rattle.valuation_report.proofs.ledger_sheets.accounts_text.Goals as goal

pub returns : goal.returns
returns c =
    let query = c.args.query.now in
    let chosen = c.args.selected.now in
    reported query chosen c.in_ok-text.ensures c.in_ok-push_accounts.ensures c.in_ok-close.ensures
    (ap (λ (heads : List Head). flat_map (account_piece query.format) (balances heads chosen.rows)) c.as_slice-heads.ensures
    ∙ of_accounts query chosen c.requires.sheet)
