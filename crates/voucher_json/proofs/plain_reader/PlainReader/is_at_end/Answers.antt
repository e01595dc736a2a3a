use Rattle.std.proofs.Common.{◌≡◌, [], arith, sym, ◌∙◌}
use Rattle.std.proofs.lemmas.Grind.{common_steps}
use Rattle.voucher_json.proofs.PlainTokens.{at_end}
use Rattle.voucher_json.proofs.plain_reader.PlainReader.is_at_end.Goals as goal

pub returns-then-may_close : goal.returns-then-may_close
returns-then-may_close c none =
    let empty : c.skip_blanks.result.now ≡ [] = grind (arith, common_steps) in
    sym c.self.view_is ∙ at_end c.self.inside.place c.self.inside.rest.now c.skip_blanks.result.now c.skip_blanks.ensures (sym c.may_close.ensures ∙ c.if-may_close.true) empty
