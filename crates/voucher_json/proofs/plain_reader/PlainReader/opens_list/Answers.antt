use Rattle.std.proofs.Common.{sym, ◌∙◌}
use Rattle.voucher_json.proofs.PlainTokens.{list_opens}
use Rattle.voucher_json.proofs.plain_reader.PlainReader.opens_list.Goals as goal

pub returns-in-Some : goal.returns-in-Some
returns-in-Some c _ =
    sym c.self.view_is
    ∙ list_opens c.self.inside.rest.now c.skip_blanks.result.now c.in-Some.rest.now c.skip_blanks.ensures c.self.inside.place (sym c.may_begin.ensures ∙ c.if-may_begin.true) c.in-Some.ensures
