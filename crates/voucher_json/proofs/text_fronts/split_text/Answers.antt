use Rattle.std.proofs.Common.{◌≡◌, get_or, arith}
use Rattle.voucher_json.proofs.PlainTokens.{cut_after, within}
use Rattle.voucher_json.proofs.text_fronts.split_text.Goals as goal

pub range_from-requires : goal.range_from-requires
range_from-requires c some =
    let quote : get_or c.args.text.now c.plain_len-len.result 32 ≡ 34 = omega (arith, c.byte_at.ensures, c.if-byte_at-ne34.false) in
    cut_after c.args.text.now c.plain_len-len.result 34 c.utf8.text (within c.args.text.now c.plain_len-len.result 34 quote (λ e. omega (arith, e))) quote (omega arith)
