-- What is written is the report.
use Rattle.std.proofs.Common.{sym, ap}
use Rattle.stock_model.specs.declared.queries.Sheet.{Sheet}
use Rattle.valuation_report.specs.SheetPieces.{sheet_pieces}
use Rattle.valuation_report.proofs.Reports.{reported}
use Rattle.valuation_report.proofs.balance_sheet.balance_text.Goals as goal

pub returns : goal.returns
returns c =
    let query = c.args.query.now in
    let chosen = c.args.selected.now in
    reported query chosen c.in_ok-text.ensures c.in_ok-push_balances.ensures c.in_ok-close.ensures
    (ap (λ (sheet : Sheet). sheet_pieces query.format sheet query chosen) (sym c.requires.sheet))
