-- The parts of a row are its piece, in either format.
use Rattle.std.proofs.Common.{rules, w64, SFits, to_z, of_z}
use Rattle.std.proofs.lemmas.Int.{to_z-of_z}
use Rattle.std.proofs.lemmas.Result.{on_ok_weaker}
use Rattle.valuation_report.proofs.AccountTexts.{account_row-json, account_row-csv}
use Rattle.valuation_report.proofs.account_rows.push_account_row.Goals as goal

pub returns-in_ok-push_number-in-Json-2 : goal.returns-in_ok-push_number-in-Json-2
returns-in_ok-push_number-in-Json-2 c =
    let balance = c.args.row.now.balance.0 in
    let fits : SFits w64 balance = search rules in
    on_ok_weaker c.push_bytes.result
    (account_row-json c.args.row.now (to_z w64 (of_z w64 balance)) c.args.format (to_z-of_z w64 balance fits) c.in-Json.is
    c.in_ok-push_number-in-Json.ensures c.in_ok-push_number-in-Json-2.ensures)
    c.push_bytes.ensures

pub returns-in_ok-push_number-in-Csv-2 : goal.returns-in_ok-push_number-in-Csv-2
returns-in_ok-push_number-in-Csv-2 c =
    let balance = c.args.row.now.balance.0 in
    let fits : SFits w64 balance = search rules in
    on_ok_weaker c.push_bytes-in-Csv.result
    (account_row-csv c.args.row.now (to_z w64 (of_z w64 balance)) c.args.format (to_z-of_z w64 balance fits) c.in-Csv.is
    c.in_ok-push_number-in-Csv.ensures c.in_ok-push_number-in-Csv-2.ensures)
    c.push_bytes-in-Csv.ensures
