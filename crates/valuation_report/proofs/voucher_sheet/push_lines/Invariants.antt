use Rattle.stock_model.specs.declared.ledger_lines.GlLine.{GlLine}
use Rattle.stock_model.specs.LedgerSheets.{voucher_row}
use Rattle.valuation_report.specs.AccountPieces.{voucher_piece}
use Rattle.valuation_report.specs.Adding.{Adds}
use Rattle.valuation_report.proofs.PiecesSoFar.{first_pieces}
use Rattle.valuation_report.proofs.voucher_sheet.push_lines.Given as goal

abbrev pub invariant-loop-place : goal.invariant-loop-place
invariant-loop-place l = Adds l.fn.text.items l.text.items (first_pieces (λ (made : GlLine). voucher_piece l.format (voucher_row l.line made)) l.lines l.place)
