use Rattle.std.proofs.Common.{◌≡◌, ◌+◌, ◌^◌, ◌<◌, ◌≤◌, ◌++◌, Some, decimal, length, take, get_or, true, sym, ap, ◌∙◌, arith}
use Rattle.std.proofs.lemmas.Bool.{eqb-false}
use Rattle.std.proofs.lemmas.List.{get_or-drop, get_or-take, take-append-drop, length-take-le}
use Rattle.std.specs.Char.{is_ascii_digit}
use Rattle.std.specs.List.{list_all}
use Rattle.std.specs.Str.Parse.{digits_value}
use Rattle.json.specs.Word.{head}
use Rattle.serde_json.specs.Data.{unsigned}
use Rattle.voucher_json.specs.PlainTokens.{follows_value}
use Rattle.voucher_json.proofs.PlainTokens.{numeral-number, numeral-reads, numeral-written}
use Rattle.voucher_json.proofs.text_fronts.split_number.Goals as goal
use Rattle.voucher_json.proofs.text_fronts.split_number.Goals.{then-len-gt1, else-len-gt1}

pub returns : goal.returns
returns c =
    let text = c.args.text.now in
    let len = c.leading_digits-len.result.0 in
    let number = c.leading_digits-len.result.1 in
    let digits : list_all is_ascii_digit (take len text) ≡ true = rw (← c.as_bytes.ensures.value) c.leading_digits-len.ensures.digits in
    let spells : number ≡ digits_value 10 (take len text) = rw (← c.as_bytes.ensures.value) c.leading_digits-len.ensures.number in
    let bound : len ≤ length text = rw (← c.as_bytes.ensures.value) c.leading_digits-len.ensures.bound in
    let size : length (take len text) ≡ len = length-take-le len text bound in
    let first : head (take len text) ≡ get_or text 0 32 = get_or-take len text 0 32 (omega (arith, c.if-len-eq0.false)) in
    let no_zero : 1 < len → head (take len text) ≡ 48 → ⊥ =
    elim c.if-len-gt1.branch [
      | then-len-gt1 w ↦ λ more zero. eqb-false w.byte_at.result 48 (sym w.has_leading_zero-is ∙ c.if-has_leading_zero.false) (w.byte_at.ensures ∙ sym first ∙ zero)
      | else-len-gt1 w ↦ λ more zero. omega (arith, w.if-len-gt1.false, more)
    ] in
    let some : 0 < length (take len text) = omega (arith, size, c.if-len-eq0.false) in
    let small : digits_value 10 (take len text) < 2 ^ 64 = omega (arith, spells, c.leading_digits-len.type_inv.1) in
    let here : len + 0 ≡ len = omega arith in
    let tail : head c.range_from.result.now ≡ get_or text len 32 = ap head c.range_from.ensures.value ∙ get_or-drop len text 0 32 ∙ ap (λ k. get_or text k 32) here in
    record {
      numeral = take len text;
      parts = sym (ap (λ b. take len text ++ b) c.range_from.ensures.value ∙ take-append-drop len text);
      written = numeral-written (take len text) digits some (λ more. no_zero (omega (arith, size, more))) small ∙ ap decimal (sym spells);
      number = numeral-number (take len text) digits some (λ more. no_zero (omega (arith, size, more)));
      reads = numeral-reads (take len text) digits some small ∙ ap (λ n. Some (unsigned n)) (sym spells);
      ends = ap follows_value (tail ∙ sym c.byte_at-else-has_leading_zero.ensures) ∙ sym c.follows_value.ensures ∙ c.if-not-follows_value.false;
    }
