use Rattle.std.proofs.Common.{◌≤◌, map, length, IsTrue, arith}
use Rattle.std.proofs.lemmas.Bool.Decides.{nat_tests}
use Rattle.serde_json.specs.View.{items_of}
use Rattle.stock_model.specs.Limits.{is_within_limits}
use Rattle.stock_model.specs.declared.vouchers.What.TheVariants.{Receipt}
use Rattle.voucher_json.specs.Records.{receipt_line}
use Rattle.voucher_json.specs.Tables.{line_data}
use Rattle.voucher_json.specs.UsualTexts.{EndsWithLines}
use Rattle.voucher_json.proofs.UsualTexts.{receipt_read}
use Rattle.voucher_json.proofs.usual_requests.read_receipt.Goals as goal

pub returns-clause-read : goal.returns-clause-read
returns-clause-read c =
    let ends : EndsWithLines c.read_at.new.reader (items_of (map (line_data receipt_line) c.in-Some-2.lines)) c.read_last_lines.new.reader = rw c.in-Some-2.is at c.in_ok-lines.ensures.read in
    let least : 1 ≤ length c.in-Some-2.lines = rw c.in-Some-2.is at c.in_ok-lines.ensures.least in
    let most : length c.in-Some-2.lines ≤ 100 = rw c.in-Some-2.is at c.in_ok-lines.ensures.most in
    let limits : IsTrue (is_within_limits (Receipt c.in-Some.at c.in-Some-2.lines)) = grind (arith, nat_tests) in
    receipt_read c.in-Some.at c.in-Some-2.lines _ c.read_at.new.reader c.read_last_lines.new.reader c.in-Some.ensures ends limits
