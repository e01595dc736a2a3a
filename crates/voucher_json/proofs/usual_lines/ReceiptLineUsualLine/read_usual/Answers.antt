use Rattle.std.proofs.Common.{◌≡◌, ◌∷◌, codes, pos, w64, to_z, arith, rules}
use Rattle.std.proofs.lemmas.Int.{ints}
use Rattle.json.specs.Token.{key, end_object}
use Rattle.voucher_json.specs.UsualTexts.{BeginsWithGoods}
use Rattle.voucher_json.proofs.UsualLines.{receipt_line_read}
use Rattle.voucher_json.proofs.usual_lines.ReceiptLineUsualLine.read_usual.Goals as goal

pub returns : goal.returns
returns c =
    let goods : BeginsWithGoods c.args.reader.now c.in_ok-of.field-0 c.in_ok-of-2.field-0 c.in-Some.qty c.read_goods.new.reader = rw (c.in_ok-of.ensures.spelled, c.in_ok-of-2.ensures.spelled) c.in-Some.ensures in
    let named : c.read_goods.new.reader ≡ key (codes "amount") ∷ c.has_key.new.self = search rules in
    let closed : c.next_number.new.self ≡ end_object ∷ c.closes_object.new.self = search rules in
    let price : to_z w64 c.in-Some-next_number.amount ≡ pos c.in-Some-next_number.amount = omega (arith, ints) in
    receipt_line_read c.in_ok-of.field-0 c.in_ok-of-2.field-0 c.in-Some.qty c.in-Some-next_number.amount (to_z w64 c.in-Some-next_number.amount) _ c.read_goods.new.reader c.has_key.new.self c.next_number.new.self _ goods named c.in-Some-next_number.ensures closed price
