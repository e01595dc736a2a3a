use Rattle.std.proofs.Common.{◌≡◌, ◌∷◌, ◌++◌, sym, ap, ◌∙◌}
use Rattle.voucher_json.specs.FieldNames.{field_text}
use Rattle.voucher_json.proofs.PlainTexts.{field-plain}
use Rattle.voucher_json.proofs.PlainTokens.{key_comes}
use Rattle.voucher_json.proofs.plain_reader.PlainReader.has_key.Goals as goal

pub returns-in-Some : goal.returns-in-Some
returns-in-Some c _ =
    let front : c.skip_blanks.result.now ≡ 34 ∷ (field_text c.args.name ++ 34 ∷ 58 ∷ c.in-Some.rest.now) = c.in-Some.ensures ∙ ap (λ name. 34 ∷ (name ++ 34 ∷ 58 ∷ c.in-Some.rest.now)) c.field_text.ensures in
    sym c.self.view_is
    ∙ key_comes c.self.inside.rest.now c.skip_blanks.result.now c.in-Some.rest.now c.skip_blanks.ensures c.self.inside.place (field_text c.args.name) (sym c.may_begin.ensures ∙ c.if-may_begin.true) (field-plain c.args.name) front
