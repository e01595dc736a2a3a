-- A word that tells a number is one that is parsed.
use Rattle.std.proofs.Common.{◌≢◌, ℕ, ◌<◌, ◌^◌, List, [], ◌∷◌, get_or, arith}
use Rattle.std.specs.Prelude.{All}
use Rattle.std.specs.Char.{IsAsciiDigit}
use Rattle.std.specs.Str.Parse.{IsNumeral, AllDigits, digits_value, without_leading_plus}
use Rattle.std.proofs.lemmas.List.Elements.{All-head, All-tail}
use Rattle.std.proofs.lemmas.Str.{digit_value_digit}
use Rattle.std.proofs.lemmas.Str.Parse.{without_leading_plus_none, digit_at}
use Rattle.stock_words.specs.NumberWords.{IsNumber}

all_digits : (word : List ℕ) → All IsAsciiDigit word → AllDigits 10 word
all_digits [] h = tt
all_digits (c ∷ cs) h =
    let digit = All-head IsAsciiDigit c cs h in
    let value = digit_value_digit c digit in (
      omega (arith, value, digit),
      all_digits cs (All-tail IsAsciiDigit c cs h),
    )

pub number-parses : (most : ℕ) (word : List ℕ) (n : ℕ) → most < 2 ^ 32 → IsNumber most word n
    → IsNumeral 10 (without_leading_plus word) × (digits_value 10 (without_leading_plus word) < 2 ^ 32)
number-parses most word n fits number =
    let digits = all_digits word number.digits in
    let first = digit_at word 0 digits number.some in
    let no_plus : get_or word 0 0 ≢ 43 = λ plus. omega (arith, plus, first) in
    rw (without_leading_plus_none word no_plus) ((number.some, digits), omega (arith, number.told, number.within, fits))
