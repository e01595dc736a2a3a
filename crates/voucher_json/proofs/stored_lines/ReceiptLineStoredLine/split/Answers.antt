use Rattle.std.proofs.Common.{◌≡◌, ◌++◌, ◌∷◌, codes, decimal, pos, w64, to_z, ap, ◌∙◌, arith}
use Rattle.std.proofs.lemmas.Int.{ints}
use Rattle.voucher_json.specs.UsualRecords.{goods_text}
use Rattle.voucher_json.proofs.UsualRecords.{receipt_line-text}
use Rattle.voucher_json.proofs.stored_lines.ReceiptLineStoredLine.split.Goals as goal

pub returns : goal.returns
returns c =
    let goods = c.in-Some-split_goods.goods in
    let code = c.in_ok-of.field-0 in
    let store = c.in_ok-of-2.field-0 in
    let amount = c.in-Some.amount in
    let price : to_z w64 amount ≡ pos amount = omega (arith, ints) in
    let says : c.in-Some-after_byte.rest.now ≡ goods_text code goods.qty store goods.rest.now = rw (c.in_ok-of.ensures.spelled, c.in_ok-of-2.ensures.spelled) c.in-Some-split_goods.ensures.text in
    c.in-Some.ensures ∙ ap (λ t. codes "{\"amount\":" ++ (decimal amount ++ t)) (c.in-Some-after_byte.ensures ∙ ap (λ t. 44 ∷ t) says)
    ∙ receipt_line-text code store goods.qty amount (to_z w64 amount) goods.rest.now price
