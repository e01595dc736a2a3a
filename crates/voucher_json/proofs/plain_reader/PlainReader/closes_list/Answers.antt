use Rattle.std.proofs.Common.{◌∷◌, sym, ap, ◌∙◌}
use Rattle.json.specs.Token.{end_array}
use Rattle.voucher_json.proofs.PlainTokens.{list_closes}
use Rattle.voucher_json.proofs.plain_reader.PlainReader.closes_list.Goals as goal

pub returns-in-Some-clause-passed : goal.returns-in-Some-clause-passed
returns-in-Some-clause-passed c _ =
    sym c.self.view_is
    ∙ list_closes c.self.inside.rest.now c.skip_blanks.result.now c.in-Some.rest.now c.skip_blanks.ensures c.self.inside.place (sym c.may_close.ensures ∙ c.if-may_close.true) c.in-Some.ensures
    ∙ ap (λ ts. end_array ∷ ts) (sym c.pass_comma.ensures)
