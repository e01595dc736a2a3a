use Rattle.std.proofs.Common.{◌≡◌, ℕ, take, drop}
use Rattle.std.specs.List.{flat_map}
use Rattle.valuation_report.specs.AccountPieces.{voucher_piece, record_rows}
use Rattle.valuation_report.specs.Adding.{Adds}
use Rattle.valuation_report.proofs.voucher_sheet.push_voucher.Given as goal

abbrev pub invariant-loop-row : goal.invariant-loop-row
invariant-loop-row l =
    (seen : ℕ) × (l.row-iterator ≡ drop seen l.rows)
    × Adds l.fn.text.items l.text.items (flat_map (voucher_piece l.format) (record_rows l.number.0 l.heads (take seen l.rows)))
