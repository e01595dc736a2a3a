use Rattle.std.proofs.Common.{◌∷◌, sym, ap, ◌∙◌}
use Rattle.json.specs.Token.{string}
use Rattle.voucher_json.proofs.PlainTokens.{text_comes}
use Rattle.voucher_json.proofs.plain_reader.PlainReader.next_text.Goals as goal

pub returns : goal.returns
returns c =
    sym c.self.view_is
    ∙ text_comes c.self.inside.rest.now c.skip_blanks.result.now c.in_ok-text.rest.now c.skip_blanks.ensures c.self.inside.place c.in_ok-opened.opened.now c.in_ok-text.text.now (sym c.may_begin.ensures ∙ c.if-not-may_begin.false) c.in_ok-opened.ensures c.in_ok-text.ensures
    (sym c.value_ends.ensures ∙ c.if-not-value_ends.false)
    ∙ ap (λ ts. string c.in_ok-text.text.now ∷ ts) (sym c.pass_comma.ensures)
