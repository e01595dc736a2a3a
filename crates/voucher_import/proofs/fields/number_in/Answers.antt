-- One more digit.
use Rattle.std.proofs.Common.{◌≡◌, ◌+◌, ◌*◌, ◌-◌, ◌<◌, ◌≤◌, ◌^◌, ℕ, true, length, take, get_or, arith, sym, ◌∙◌, lit<}
use Rattle.std.specs.Char.{is_ascii_digit, IsAsciiDigit, digit_value}
use Rattle.std.proofs.lemmas.Bool.{and_from, MatchBool-at_true}
use Rattle.std.proofs.lemmas.List.Folds.{list_all_more}
use Rattle.std.proofs.lemmas.List.{take_all}
use Rattle.std.proofs.lemmas.Str.{digit_value_digit}
use Rattle.std.proofs.lemmas.Int.Digits.{digits_value_more}
use Rattle.std.proofs.Math.Nat.{pow-le-pow_right, pow-suc}
use Rattle.std.proofs.Common.{add-one}
use Rattle.voucher_import.proofs.fields.number_in.Goals as goal

-- before the thirteenth digit the number is below 10^12
small : (number place size : ℕ) → number < 10 ^ place → place < size → size ≤ 13 → number < 1000000000000
small number place size short within few =
    let power : 10 ^ place ≤ 10 ^ 12 = pow-le-pow_right {n = 10} (lit< tt) {i = place} {j = 12} (omega arith) in
    omega (arith, power)

digit_is : (b : ℕ) → IsAsciiDigit b → digit_value b ≡ b - 48
digit_is b digit = omega (arith, digit_value_digit b digit)

grows : (number place digit : ℕ) → number < 10 ^ place → digit ≤ 9 → number * 10 + digit < 10 ^ (place + 1)
grows number place digit short few =
    let power : 10 ^ (place + 1) ≡ 10 ^ place * 10 = rw (add-one place) (pow-suc 10 place) in
    omega (arith, power)

pub overflow_mul-number : goal.overflow_mul-number
overflow_mul-number c =
    let below = small c.loop-digit.number c.loop-digit.digit-index (length c.args.text.now) c.loop-digit.invariant.short c.loop-digit-test.true c.if-text-gt-MAX_DIGITS.false in
    omega (arith, below)

pub overflow_add-number : goal.overflow_add-number
overflow_add-number c =
    let below = small c.loop-digit.number c.loop-digit.digit-index (length c.args.text.now) c.loop-digit.invariant.short c.loop-digit-test.true c.if-text-gt-MAX_DIGITS.false in
    omega (arith, below, c.type_inv.text c.loop-digit.digit-index, c.from.ensures)

pub loop-digit-preserved : goal.loop-digit-preserved
loop-digit-preserved c =
    let digit : is_ascii_digit (get_or c.args.text.now c.loop-digit.digit-index 0) ≡ true = cc (c.is_ascii_digit.ensures.value) in
    let is_one : IsAsciiDigit (get_or c.args.text.now c.loop-digit.digit-index 0) = MatchBool-at_true _ _ c.if-not-is_ascii_digit.false c.is_ascii_digit.ensures.cases in
    let old = c.loop-digit.invariant in
    let value = digits_value_more 10 c.args.text.now c.loop-digit.digit-index c.loop-digit-test.true in
    let told = digit_is _ is_one in
    record {
      short = grows c.loop-digit.number c.loop-digit.digit-index c.from.result old.short (omega (arith, is_one, c.from.ensures));
      digits = list_all_more is_ascii_digit c.args.text.now c.loop-digit.digit-index 0 c.loop-digit-test.true ∙ and_from _ _ old.digits digit;
      number = rw (c.from.ensures, ← told, old.number) (sym value);
    }

pub returns : goal.returns
returns c =
    let whole : take c.loop-digit.digit-index c.args.text.now ≡ c.args.text.now = take_all _ _ (omega arith) in
    let digits = rw whole at c.loop-digit.invariant.digits in
    record {
      digits = grind (arith, digits);
      number = rw whole at c.loop-digit.invariant.number;
    }
