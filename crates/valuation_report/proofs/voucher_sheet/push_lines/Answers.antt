-- One more line has its piece, until all have.
use Rattle.std.proofs.Common.{ℕ, ◌≤◌, Vec, Global, length, sym, ap, arith}
use Rattle.std.proofs.lemmas.List.Folds.{flat_map-map}
use Rattle.stock_model.specs.declared.ledger_lines.GlLine.{GlLine}
use Rattle.stock_model.specs.LedgerSheets.{voucher_row}
use Rattle.valuation_report.specs.AccountPieces.{voucher_piece}
use Rattle.valuation_report.proofs.Joined.{renamed}
use Rattle.valuation_report.proofs.PiecesSoFar.{no_piece, same_text, one_found, none_found, all_pieces}
use Rattle.valuation_report.proofs.voucher_sheet.push_lines.Goals as goal
use Rattle.valuation_report.proofs.voucher_sheet.push_lines.Goals.{in-Some+in_ok-push_voucher_row, in_default}

pub loop-place-init : goal.loop-place-init
loop-place-init c = no_piece c.args.text.now.items

pub loop-place-preserved : goal.loop-place-preserved
loop-place-preserved c =
    let piece = λ (made : GlLine). voucher_piece c.args.format (voucher_row c.args.line made) in
    let lines = c.args.lines.now in
    let place = c.loop-place.place in
    elim c.match-at.branch [
      | in-Some+in_ok-push_voucher_row w ↦ same_text (ap (λ (text : Vec ℕ Global). text.items) w.text-is)
          (one_found piece lines place w.in-Some.made w.in-Some.ensures c.loop-place.invariant w.in_ok-push_voucher_row.ensures)
      | in_default w ↦ same_text (ap (λ (text : Vec ℕ Global). text.items) w.text-is) (none_found piece lines place (sym w.in_default.ensures) c.loop-place.invariant)
    ]

pub returns : goal.returns
returns c =
    let piece = λ (made : GlLine). voucher_piece c.args.format (voucher_row c.args.line made) in
    let past : length c.args.lines.now ≤ c.loop-place.place = omega arith in
    renamed (all_pieces piece c.args.lines.now c.loop-place.place past c.loop-place.invariant)
    (sym (flat_map-map (voucher_piece c.args.format) (voucher_row c.args.line) c.args.lines.now))
