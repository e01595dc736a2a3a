-- One more digit.
use Rattle.std.proofs.Common.{◌≡◌, ◌+◌, ◌*◌, ◌-◌, ℕ, true, length, take, get_or, min, arith, sym, ◌∙◌, ap}
use Rattle.std.specs.Char.{is_ascii_digit, IsAsciiDigit, digit_value}
use Rattle.std.specs.Str.Parse.{digits_value}
use Rattle.std.proofs.lemmas.Bool.{and_from, MatchBool-at_true}
use Rattle.std.proofs.lemmas.List.Folds.{list_all_more}
use Rattle.std.proofs.lemmas.Str.{digit_value_digit}
use Rattle.std.proofs.lemmas.Int.Digits.{digits_value_more}
use Rattle.desk_wire.proofs.length.read_length.Goals as goal

capped : (before value digit length length' : ℕ) → length ≡ min before 65537 → value ≡ before * 10 + digit
    → length' ≡ min (length * 10 + digit) 65537 → length' ≡ min value 65537
capped before value digit length length' same more now = omega arith

digit_is : (b : ℕ) → IsAsciiDigit b → digit_value b ≡ b - 48
digit_is b digit = omega (arith, digit_value_digit b digit)

pub loop-digit-preserved : goal.loop-digit-preserved
loop-digit-preserved c =
    let digit : is_ascii_digit (get_or c.args.value.now c.loop-digit.digit-index 0) ≡ true = cc (c.is_ascii_digit.ensures.value) in
    let old = c.loop-digit.invariant in
    let value = digits_value_more 10 c.args.value.now c.loop-digit.digit-index c.loop-digit-test.true in (
      omega (arith, c.min-length.ensures),
      list_all_more is_ascii_digit c.args.value.now c.loop-digit.digit-index 0 c.loop-digit-test.true
          ∙ and_from _ _ old.1 digit,
      capped (digits_value 10 (take c.loop-digit.digit-index c.args.value.now)) _ (digit_value (get_or c.args.value.now c.loop-digit.digit-index 0))
          c.loop-digit.length c.min-length.result old.2 value
          (c.min-length.ensures ∙ ap (λ d. min (c.loop-digit.length * 10 + d) 65537) (c.from.ensures ∙ sym (digit_is _ (MatchBool-at_true _ _ c.if-not-is_ascii_digit.false c.is_ascii_digit.ensures.cases)))),
    )
