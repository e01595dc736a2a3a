-- The parts of a row are its piece, in either format.
use Rattle.std.proofs.Common.{rules, w64, SFits, to_z, of_z}
use Rattle.std.proofs.lemmas.Int.{to_z-of_z}
use Rattle.std.proofs.lemmas.Result.{on_ok_weaker}
use Rattle.valuation_report.proofs.AccountTexts.{voucher_row-json, voucher_row-csv}
use Rattle.valuation_report.proofs.voucher_rows.push_voucher_row.Goals as goal

pub returns-in_ok-push_number-in-Json-4 : goal.returns-in_ok-push_number-in-Json-4
returns-in_ok-push_number-in-Json-4 c =
    let made = c.args.made.now in
    let debit : SFits w64 made.debit.0 = search rules in
    let credit : SFits w64 made.credit.0 = search rules in
    on_ok_weaker c.push_bytes.result
    (voucher_row-json c.args.line made (to_z w64 (of_z w64 made.debit.0)) (to_z w64 (of_z w64 made.credit.0)) c.args.format
    (to_z-of_z w64 made.debit.0 debit) (to_z-of_z w64 made.credit.0 credit) c.in-Json.is
    c.in_ok-push_number-in-Json.ensures c.in_ok-push_number-in-Json-2.ensures c.in_ok-push_number-in-Json-3.ensures c.in_ok-push_number-in-Json-4.ensures)
    c.push_bytes.ensures

pub returns-in_ok-push_number-in-Csv-4 : goal.returns-in_ok-push_number-in-Csv-4
returns-in_ok-push_number-in-Csv-4 c =
    let made = c.args.made.now in
    let debit : SFits w64 made.debit.0 = search rules in
    let credit : SFits w64 made.credit.0 = search rules in
    on_ok_weaker c.push_bytes-in-Csv.result
    (voucher_row-csv c.args.line made (to_z w64 (of_z w64 made.debit.0)) (to_z w64 (of_z w64 made.credit.0)) c.args.format
    (to_z-of_z w64 made.debit.0 debit) (to_z-of_z w64 made.credit.0 credit) c.in-Csv.is
    c.in_ok-push_number-in-Csv.ensures c.in_ok-push_number-in-Csv-2.ensures c.in_ok-push_number-in-Csv-3.ensures c.in_ok-push_number-in-Csv-4.ensures)
    c.push_bytes-in-Csv.ensures
