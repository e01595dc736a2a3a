use Rattle.std.proofs.Common.{◌∷◌, sym, ap, ◌∙◌}
use Rattle.json.specs.Token.{end_object}
use Rattle.voucher_json.proofs.PlainTokens.{object_closes}
use Rattle.voucher_json.proofs.plain_reader.PlainReader.closes_object.Goals as goal

pub returns-in-Some : goal.returns-in-Some
returns-in-Some c _ =
    sym c.self.view_is
    ∙ object_closes c.self.inside.rest.now c.skip_blanks.result.now c.in-Some.rest.now c.skip_blanks.ensures c.self.inside.place (sym c.may_close.ensures ∙ c.if-may_close.true) c.in-Some.ensures
    ∙ ap (λ ts. end_object ∷ ts) (sym c.pass_comma.ensures)
