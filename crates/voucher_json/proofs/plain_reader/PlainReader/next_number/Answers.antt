use Rattle.std.proofs.Common.{◌∷◌, sym, ap, ◌∙◌}
use Rattle.json.specs.Token.{number}
use Rattle.voucher_json.proofs.PlainTokens.{number_comes}
use Rattle.voucher_json.proofs.plain_reader.PlainReader.next_number.Goals as goal

pub returns : goal.returns
returns c =
    let is = c.in_ok-number.ensures in
    record {
      text = is.numeral;
      first =
          sym c.self.view_is
          ∙ number_comes c.self.inside.rest.now c.skip_blanks.result.now c.in_ok-number.rest.now c.skip_blanks.ensures c.self.inside.place c.in_ok-number.number (sym c.may_begin.ensures ∙ c.if-not-may_begin.false) is
          ∙ ap (λ ts. number is.numeral ∷ ts) (sym c.pass_comma.ensures);
      reads = is.reads;
    }
