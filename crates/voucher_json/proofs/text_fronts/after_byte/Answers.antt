use Rattle.std.proofs.Common.{◌<◌, length, arith}
use Rattle.std.proofs.lemmas.Grind.{common_steps}
use Rattle.voucher_json.proofs.PlainTokens.{cut_after}
use Rattle.voucher_json.proofs.text_fronts.after_byte.Goals as goal

pub range_from-requires : goal.range_from-requires
range_from-requires c some =
    let within : 0 < length c.args.text.now = grind (arith, common_steps) in
    cut_after c.args.text.now 0 c.args.byte c.utf8.text within (omega (arith, c.byte_at.ensures, c.if-byte_at-byte.false)) c.requires
