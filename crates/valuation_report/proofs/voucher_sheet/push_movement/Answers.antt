-- The lines are those of the warehouse's account.
use Rattle.std.proofs.Common.{ℕ, List, map, ap, ◌∙◌}
use Rattle.std.specs.List.{flat_map}
use Rattle.std.proofs.lemmas.Result.{on_ok_weaker}
use Rattle.stock_model.specs.declared.ledger_lines.GlLine.{GlLine}
use Rattle.stock_model.specs.LedgerLines.{gl_lines}
use Rattle.stock_model.specs.LedgerSheets.{voucher_row}
use Rattle.valuation_report.specs.AccountPieces.{voucher_piece}
use Rattle.valuation_report.proofs.Joined.{renamed}
use Rattle.valuation_report.proofs.voucher_sheet.push_movement.Goals as goal

pub returns : goal.returns
returns c =
    let row = c.args.row.now in
    on_ok_weaker c.push_lines.result
    (λ added. renamed added
    (ap (λ (lines : List GlLine). flat_map (voucher_piece c.args.format) (map (voucher_row row.entry.place.line) lines))
    (c.lines_of-lines.ensures.lines ∙ ap (λ (account : ℕ). gl_lines account row) c.account_of-account.ensures)))
    c.push_lines.ensures
