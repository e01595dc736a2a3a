-- A moment's digits spell it.
use Rattle.std.proofs.Common.{◌≡◌, ℕ, ◌+◌, ◌-◌, ◌*◌, ◌/◌, ◌%◌, ◌<◌, ◌≤◌, ℤ, List, pos, slice_set, refl, ap, ◌∙◌, arith}
use Rattle.std.proofs.lemmas.Int.{ints}
use Rattle.jiff.specs.Words.{IsDate}
use Rattle.stock_nums.specs.MomentText.{HasMomentShape, SpellsMoment, text_of, moment_text}
use Rattle.stock_nums.specs.declared.moment.Moment.{Moment}

-- the text with the two digits of the number at the place and the next
abbrev pub with_two_digits : List ℕ → ℕ → ℕ → List ℕ
with_two_digits text at number = slice_set (slice_set text at (48 + number / 10)) (at + 1) (48 + number % 10)

-- writing the parts over zeros gives the text
pub text_of-steps : (c y m d h n s : ℕ) (t0 t1 t2 t3 t4 t5 t6 t7 : List ℕ) → t0 ≡ text_of 0 0 0 0 0 0 0 → t1 ≡ with_two_digits t0 0 c → t2 ≡ with_two_digits t1 2 y → t3 ≡ with_two_digits t2 5 m → t4 ≡ with_two_digits t3 8 d → t5 ≡ with_two_digits t4 11 h → t6 ≡ with_two_digits t5 14 n → t7 ≡ with_two_digits t6 17 s → t7 ≡ text_of c y m d h n s
text_of-steps c y m d h n s t0 t1 t2 t3 t4 t5 t6 t7 e0 e1 e2 e3 e4 e5 e6 e7 =
    let w1 : t1 ≡ text_of c 0 0 0 0 0 0 = e1 ∙ ap (λ (t : List ℕ). with_two_digits t 0 c) e0 in
    let w2 : t2 ≡ text_of c y 0 0 0 0 0 = e2 ∙ ap (λ (t : List ℕ). with_two_digits t 2 y) w1 in
    let w3 : t3 ≡ text_of c y m 0 0 0 0 = e3 ∙ ap (λ (t : List ℕ). with_two_digits t 5 m) w2 in
    let w4 : t4 ≡ text_of c y m d 0 0 0 = e4 ∙ ap (λ (t : List ℕ). with_two_digits t 8 d) w3 in
    let w5 : t5 ≡ text_of c y m d h 0 0 = e5 ∙ ap (λ (t : List ℕ). with_two_digits t 11 h) w4 in
    let w6 : t6 ≡ text_of c y m d h n 0 = e6 ∙ ap (λ (t : List ℕ). with_two_digits t 14 n) w5 in
    e7 ∙ ap (λ (t : List ℕ). with_two_digits t 17 s) w6

-- it has the shape of a moment
text_of-shape : (c y m d h n s : ℕ) → c < 100 → y < 100 → m < 100 → d < 100 → h < 100 → n < 100 → s < 100 → HasMomentShape (text_of c y m d h n s)
text_of-shape c y m d h n s c_small y_small m_small d_small h_small n_small s_small = record {
  whole = refl;
  century = record { tens = (omega arith, omega arith); ones = (omega arith, omega arith) };
  year = record { tens = (omega arith, omega arith); ones = (omega arith, omega arith) };
  first_hyphen = refl;
  month = record { tens = (omega arith, omega arith); ones = (omega arith, omega arith) };
  second_hyphen = refl;
  day = record { tens = (omega arith, omega arith); ones = (omega arith, omega arith) };
  letter_t = refl;
  hour = record { tens = (omega arith, omega arith); ones = (omega arith, omega arith) };
  first_colon = refl;
  minute = record { tens = (omega arith, omega arith); ones = (omega arith, omega arith) };
  second_colon = refl;
  second = record { tens = (omega arith, omega arith); ones = (omega arith, omega arith) };
}

-- two digits of a number spell it
digits-is : (n : ℕ) → 10 * (48 + n / 10 - 48) + (48 + n % 10 - 48) ≡ n
digits-is n = omega arith

-- the digits of the year spell the year of the date
year-is : (date : ℕ) → 100 * (10 * (48 + date / 1000000 / 10 - 48) + (48 + date / 1000000 % 10 - 48)) + (10 * (48 + date / 10000 % 100 / 10 - 48) + (48 + date / 10000 % 100 % 10 - 48)) ≡ date / 10000
year-is date = omega arith

-- the parts of a date give it
date-is : (date y m d : ℕ) → y ≡ date / 10000 → m ≡ date / 100 % 100 → d ≡ date % 100 → date ≡ 10000 * y + 100 * m + d
date-is date y m d year month day = omega arith

-- no year of the calendar has five digits
year-small : (y : ℕ) (m d : ℤ) → IsDate (pos y) m d → y ≤ 9999
year-small y m d exists = omega (arith, ints)

-- so the century has two
century-small : (moment : Moment) → moment.date / 1000000 < 100
century-small moment =
    let year : moment.date / 10000 ≤ 9999 = year-small _ _ _ moment.exists.1 in
    omega arith

-- a date with the same parts is in the calendar too
date-same : (y m d y' m' d' : ℕ) → y' ≡ y → m' ≡ m → d' ≡ d → IsDate (pos y) (pos m) (pos d) → IsDate (pos y') (pos m') (pos d')
date-same y m d y' m' d' year month day exists = rw (year, month, day) exists

-- the text of a moment's parts spells the moment
pub moment_text-spells : (moment : Moment) → SpellsMoment (moment_text moment) moment
moment_text-spells moment = record {
  shape = text_of-shape _ _ _ _ _ _ _ (century-small moment) (omega arith) (omega arith) (omega arith) (omega arith) (omega arith) (omega arith);
  in_range = record {
    year = omega (arith, year-is moment.date);
    date = date-same _ _ _ _ _ _ (year-is moment.date) (digits-is (moment.date / 100 % 100)) (digits-is (moment.date % 100)) moment.exists.1;
    hour = omega arith;
    minute = omega arith;
    second = omega arith;
  };
  date = date-is _ _ _ _ (year-is moment.date) (digits-is (moment.date / 100 % 100)) (digits-is (moment.date % 100));
  second = omega arith;
}
