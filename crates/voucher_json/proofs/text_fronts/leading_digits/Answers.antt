use Rattle.std.proofs.Common.{◌≡◌, ◌-◌, ◌*◌, ◌+◌, true, get_or, sym, ap, ◌∙◌, arith}
use Rattle.std.specs.Char.{is_ascii_digit}
use Rattle.voucher_json.proofs.PlainTokens.{digits_more, number_more}
use Rattle.voucher_json.proofs.text_fronts.leading_digits.Goals as goal

pub loop-len-preserved : goal.loop-len-preserved
loop-len-preserved c =
    let d = c.args.bytes.now in
    let digit : is_ascii_digit (get_or d c.loop-len.len 0) ≡ true = sym c.is_ascii_digit.ensures.value ∙ c.if-is_ascii_digit.true in
    record {
      digits = digits_more d c.loop-len.len c.loop-len-test.true digit c.loop-len.invariant.digits;
      number = ap (λ n. n * 10 + (get_or d c.loop-len.len 0 - 48)) c.loop-len.invariant.number ∙ sym (number_more d c.loop-len.len c.loop-len-test.true digit);
      bound = omega (arith, c.loop-len-test.true);
    }
