use Rattle.std.proofs.Common.{◌≡◌, ◌∷◌, rules}
use Rattle.json.specs.Token.{end_object}
use Rattle.voucher_json.specs.UsualTexts.{BeginsWithGoods}
use Rattle.voucher_json.proofs.UsualLines.{issue_line_read}
use Rattle.voucher_json.proofs.usual_lines.IssueLineUsualLine.read_usual.Goals as goal

pub returns : goal.returns
returns c =
    let goods : BeginsWithGoods c.args.reader.now c.in_ok-of.field-0 c.in_ok-of-2.field-0 c.in-Some.qty c.read_goods.new.reader = rw (c.in_ok-of.ensures.spelled, c.in_ok-of-2.ensures.spelled) c.in-Some.ensures in
    let closed : c.read_goods.new.reader ≡ end_object ∷ c.closes_object.new.self = search rules in
    issue_line_read c.in_ok-of.field-0 c.in_ok-of-2.field-0 c.in-Some.qty _ c.read_goods.new.reader _ goods closed
