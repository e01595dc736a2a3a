use Rattle.std.proofs.Common.{◌≡◌, ◌∷◌, ap, ◌∙◌}
use Rattle.voucher_json.specs.UsualRecords.{goods_text}
use Rattle.voucher_json.proofs.UsualRecords.{issue_line-text}
use Rattle.voucher_json.proofs.stored_lines.IssueLineStoredLine.split.Goals as goal

pub returns : goal.returns
returns c =
    let goods = c.in-Some-split_goods.goods in
    let code = c.in_ok-of.field-0 in
    let store = c.in_ok-of-2.field-0 in
    let says : c.in-Some.rest.now ≡ goods_text code goods.qty store goods.rest.now = rw (c.in_ok-of.ensures.spelled, c.in_ok-of-2.ensures.spelled) c.in-Some-split_goods.ensures.text in
    c.in-Some.ensures ∙ ap (λ t. 123 ∷ t) says ∙ issue_line-text code store goods.qty goods.rest.now
