-- The pieces of the record's lines are those of the sheet.
use Rattle.std.proofs.Common.{List, ap, ◌∙◌}
use Rattle.std.specs.List.{flat_map}
use Rattle.stock_nums.specs.declared.head.Head.{Head}
use Rattle.valuation_report.specs.AccountPieces.{voucher_piece, record_rows}
use Rattle.valuation_report.proofs.AccountReports.{of_voucher}
use Rattle.valuation_report.proofs.Reports.{reported}
use Rattle.valuation_report.proofs.ledger_sheets.voucher_text.Goals as goal

pub returns : goal.returns
returns c =
    let query = c.args.query.now in
    let chosen = c.args.selected.now in
    reported query chosen c.in_ok-text.ensures c.in_ok-push_voucher.ensures c.in_ok-close.ensures
    (ap (λ (heads : List Head). flat_map (voucher_piece query.format) (record_rows c.args.number.0 heads chosen.rows)) c.as_slice-heads.ensures
    ∙ of_voucher c.args.number query chosen c.requires.sheet)
