use Rattle.std.proofs.Common.{arith}
use Rattle.voucher_json.proofs.PlainTokens.{plain_more}
use Rattle.voucher_json.proofs.text_fronts.plain_len.Goals as goal

pub loop-len-preserved : goal.loop-len-preserved
loop-len-preserved c =
    record {
      plain = plain_more c.args.bytes.now c.loop-len.len c.loop-len-test.true c.if-bytes-len-ge32.true c.if-bytes-len-ne34.true c.if-bytes-len-ne92.true c.loop-len.invariant.plain;
      bound = omega (arith, c.loop-len-test.true);
    }
