use Rattle.std.proofs.Common.{◌≡◌, ◌<◌, ◌∷◌, length, drop, true, sym, ap, ◌∙◌, arith}
use Rattle.std.proofs.lemmas.Grind.{common_steps}
use Rattle.json.specs.Lex.{between, lex}
use Rattle.voucher_json.specs.PlainTokens.{is_blank}
use Rattle.voucher_json.proofs.PlainTokens.{cut_after, front_is, blank-lex, blank_small}
use Rattle.voucher_json.proofs.text_fronts.skip_blanks.Goals as goal

pub range_from-rest-requires : goal.range_from-rest-requires
range_from-rest-requires c some =
    let within : 0 < length c.loop-rest.rest.now = grind (arith, common_steps) in
    cut_after c.loop-rest.rest.now 0 c.byte_at.result c.loop-rest.invariant.0 within (sym c.byte_at.ensures) (blank_small c.byte_at.result (sym c.is_blank.ensures ∙ c.if-is_blank.true))

pub loop-rest-preserved : goal.loop-rest-preserved
loop-rest-preserved c =
    let rest = c.loop-rest.rest.now in
    let within : 0 < length rest = grind (arith, common_steps) in
    let blank : is_blank c.byte_at.result ≡ true = sym c.is_blank.ensures ∙ c.if-is_blank.true in
    let front : rest ≡ c.byte_at.result ∷ drop 1 rest = front_is rest c.byte_at.result within (sym c.byte_at.ensures) in
    (c.range_from-rest.utf8, ap (lex between) c.range_from-rest.ensures.value ∙ sym (ap (lex between) front ∙ blank-lex c.byte_at.result (drop 1 rest) blank) ∙ c.loop-rest.invariant.1)
