use Rattle.voucher_json.proofs.PlainTokens.{comma_passed}
use Rattle.voucher_json.proofs.plain_reader.pass_comma.Goals as goal

pub returns-in-Some : goal.returns-in-Some
returns-in-Some c = comma_passed c.args.text.now c.in-Some.rest.now c.in-Some.ensures
