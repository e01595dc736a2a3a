use Rattle.std.proofs.Common.{◌≤◌, map, length, IsTrue, arith}
use Rattle.std.proofs.lemmas.Bool.Decides.{nat_tests}
use Rattle.serde_json.specs.View.{items_of}
use Rattle.stock_model.specs.Limits.{is_within_limits}
use Rattle.stock_model.specs.declared.vouchers.What.TheVariants.{Issue}
use Rattle.voucher_json.specs.Records.{issue_line}
use Rattle.voucher_json.specs.Tables.{line_data}
use Rattle.voucher_json.specs.UsualTexts.{EndsWithLines}
use Rattle.voucher_json.proofs.UsualTexts.{issue_read}
use Rattle.voucher_json.proofs.usual_requests.read_issue.Goals as goal

pub returns-clause-read : goal.returns-clause-read
returns-clause-read c =
    let ends : EndsWithLines c.read_purpose.new.reader (items_of (map (line_data issue_line) c.in-Some-2.lines)) c.read_last_lines.new.reader = rw c.in-Some-2.is at c.in_ok-lines.ensures.read in
    let least : 1 ≤ length c.in-Some-2.lines = rw c.in-Some-2.is at c.in_ok-lines.ensures.least in
    let most : length c.in-Some-2.lines ≤ 100 = rw c.in-Some-2.is at c.in_ok-lines.ensures.most in
    let limits : IsTrue (is_within_limits (Issue c.in-Some.at c.in-Some-read_purpose.purpose c.in-Some-2.lines)) = grind (arith, nat_tests) in
    issue_read c.in-Some.at c.in-Some-read_purpose.purpose c.in-Some-2.lines _ c.read_at.new.reader c.read_purpose.new.reader c.read_last_lines.new.reader c.in-Some.ensures c.in-Some-read_purpose.ensures ends limits
