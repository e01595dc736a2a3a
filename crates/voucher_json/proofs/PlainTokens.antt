-- What the front of a text gives to the tokens of JSON.
use Rattle.std.proofs.Common.{◌≡◌, ℕ, suc, ◌+◌, ◌-◌, ◌*◌, ◌^◌, ◌<◌, ◌≤◌, ◌||◌, ◌==◌, nat_le, IsUtf8, append-nil, lt-ltb, lt_of_not-le, List, [], ◌∷◌, ◌++◌, length, take, drop, get_or, decimal, Bool, true, false, cond, Some, None, option_and_then, ⊎_elim, refl, sym, ap, ap₂, ◌∙◌, subst, arith}
use Rattle.std.proofs.lemmas.Bool.{or_cases, eqb-true, and_parts, leb-true, false≢true, ne_eqb}
use Rattle.std.proofs.Math.Seq.{take-suc}
use Rattle.std.proofs.lemmas.Fmt.{decimal-digits_value}
use Rattle.std.proofs.lemmas.Grind.{flat_map-append}
use Rattle.std.proofs.lemmas.List.{drop_all, drop_more, get_or_default, get_or_past}
use Rattle.std.proofs.lemmas.List.Folds.{list_all-append}
use Rattle.std.proofs.lemmas.Str.{IsCharBoundary-after_ascii}
use Rattle.std.proofs.lemmas.Int.Digits.{digits_value_push}
use Rattle.std.proofs.lemmas.Str.{digit_value_digit}
use Rattle.std.proofs.lemmas.Str.Parse.{IsNumeralModel}
use Rattle.std.specs.Char.{is_ascii_digit, digit_value}
use Rattle.std.specs.List.{list_all, prefix_len}
use Rattle.std.specs.Str.{IsCharBoundary}
use Rattle.std.specs.Str.Parse.{AllDigits, digits_value}
use Rattle.fast_float.specs.Text.{Parts, scan}
use Rattle.fast_float.proofs.Writing.{scan-text_of}
use Rattle.json.specs.Lex.{token, space, class, lex_byte, between, in_string, lex, begins_colon, string_token, punctuate, after_value}
use Rattle.json.specs.Print.{escape_byte, escape, IsNumber}
use Rattle.json.specs.Text.{content, plain}
use Rattle.json.specs.Token.{begin_object, end_object, begin_array, end_array, key, string, number}
use Rattle.json.specs.Word.{head, is_operator, is_space, ends_word, after_digits, after_minus, after_whole, after_fraction, after_exponent, after_number}
use Rattle.json.proofs.Printed.Numbers.{lex-number}
use Rattle.json.proofs.Printed.Strings.{escape_byte_plain, content-escape, lex-escape}
use Rattle.serde_json.specs.Data.{unsigned}
use Rattle.serde_json.specs.Read.{number_of}
use Rattle.voucher_json.specs.PlainTokens.{tokens_at, may_begin, may_close, is_blank, follows_value, IsQuotedText, IsNumeral}
use Rattle.voucher_json.specs.declared.plain_reader.Position.{Position}
use Rattle.voucher_json.specs.declared.plain_reader.Position.TheVariants.{Fresh, AfterComma, AfterValue}

spaced : (x : ℕ) (xs : List ℕ) → class x ≡ space → lex between (x ∷ xs) ≡ lex between xs
unfolding lex
spaced x xs is = ap (λ c. lex_byte between c x xs (λ next. lex next xs)) is

-- which bytes are blanks, and which follow a value
module _ (P : ℕ → Type 0) (x : ℕ) where
  is_one : (k : ℕ) → P k → (x == k) ≡ true → P x
  is_one k holds same = subst P (sym (eqb-true x k same)) holds

  by_blank : P 32 → P 9 → P 10 → P 13 → is_blank x ≡ true → P x
  by_blank a b c d is =
      ⊎_elim (λ e. ⊎_elim (λ e. ⊎_elim (λ e. is_one 32 a e) (λ e. is_one 9 b e) (or_cases (x == 32) (x == 9) e)) (λ e. is_one 10 c e) (or_cases ((x == 32) || (x == 9)) (x == 10) e)) (λ e. is_one 13 d e)
      (or_cases ((x == 32) || (x == 9) || (x == 10)) (x == 13) is)

  by_follows : P 44 → P 125 → P 93 → follows_value x ≡ true → P x
  by_follows a b c is = ⊎_elim (λ e. ⊎_elim (λ e. is_one 44 a e) (λ e. is_one 125 b e) (or_cases (x == 44) (x == 125) e)) (λ e. is_one 93 c e) (or_cases ((x == 44) || (x == 125)) (x == 93) is)

-- a blank means nothing
pub blank-lex : (x : ℕ) (xs : List ℕ) → is_blank x ≡ true → lex between (x ∷ xs) ≡ lex between xs
blank-lex x xs blank = spaced x xs (by_blank (λ y. class y ≡ space) x refl refl refl refl blank)

pub blank_small : (x : ℕ) → is_blank x ≡ true → x < 128
blank_small x blank = by_blank (λ y. y < 128) x (omega arith) (omega arith) (omega arith) (omega arith) blank

-- a text with nothing escaped, in quotes
pub text-lex : (s rest : List ℕ) → escape s ≡ s → lex between (34 ∷ (s ++ 34 ∷ rest)) ≡ token (string s) ∷ lex between rest
unfolding lex
text-lex s rest is =
    let found : content plain (s ++ 34 ∷ rest) ≡ Some s = subst (λ e. content plain (e ++ 34 ∷ rest) ≡ Some s) is (content-escape s rest) in
    let after : lex in_string (s ++ 34 ∷ rest) ≡ lex between rest = subst (λ e. lex in_string (e ++ 34 ∷ rest) ≡ lex between rest) is (lex-escape s rest) in
    ap₂ (λ t ls. token (string_token t) ∷ ls) found after

-- after a value stands no colon
no_colon : (rest : List ℕ) → follows_value (head rest) ≡ true → begins_colon (lex between rest) ≡ false
unfolding lex
no_colon [] ends = refl
no_colon (x ∷ xs) ends = by_follows (λ y. begins_colon (lex between (y ∷ xs)) ≡ false) x refl refl refl ends

-- and a word has ended
word_ends : (rest : List ℕ) → follows_value (head rest) ≡ true → ends_word rest ≡ true
word_ends rest ends = by_follows (λ y. (is_operator y || is_space y) ≡ true) (head rest) refl refl refl ends

-- digits that do not begin with 0, or a 0 alone, are a number
whole_digits : (s : List ℕ) → list_all is_ascii_digit s ≡ true → prefix_len is_ascii_digit s ≡ length s
whole_digits [] all = refl
whole_digits (x ∷ xs) all =
    let both = and_parts (is_ascii_digit x) (list_all is_ascii_digit xs) all in
    let next : 1 + length xs ≡ suc (length xs) = omega arith in
    ap (λ b. cond b (1 + prefix_len is_ascii_digit xs) 0) both.0 ∙ ap (λ n. 1 + n) (whole_digits xs both.1) ∙ next

pub numeral-number : (s : List ℕ) → list_all is_ascii_digit s ≡ true → 0 < length s → (1 < length s → head s ≡ 48 → ⊥) → IsNumber s
unfolding after_number
numeral-number [] all some no_zero = absurd (omega (arith, some))
numeral-number (x ∷ xs) all some no_zero =
    let digit : is_ascii_digit x ≡ true = (and_parts (is_ascii_digit x) (list_all is_ascii_digit xs) all).0 in
    let least : 48 ≤ x = leb-true 48 x (and_parts _ _ digit).0 in
    let no_minus : (x == 45) ≡ false = ne_eqb x 45 (λ e. omega (arith, e, least)) in
    let unsigned : after_minus (x ∷ xs) ≡ x ∷ xs = ap (λ b. cond b xs (x ∷ xs)) no_minus in
    ap (λ t. option_and_then after_exponent (option_and_then after_fraction (after_whole t))) unsigned ∙ ap (λ o. option_and_then after_exponent (option_and_then after_fraction o)) (go (x == 48) refl)
  where
    alone : (ys : List ℕ) → (1 < length (x ∷ ys) → ⊥) → ys ≡ []
    alone [] single = refl
    alone (y ∷ ys) single = absurd (single (omega arith))

    go : (b : Bool) → (x == 48) ≡ b → cond b (Some xs) (after_digits (x ∷ xs)) ≡ Some []
    go true is = ap Some (alone xs (λ more. no_zero more (eqb-true x 48 is)))
    go false is =
        let some : (length (x ∷ xs) == 0) ≡ false = ne_eqb (length (x ∷ xs)) 0 (λ e. omega (arith, e)) in
        ap (λ n. cond (n == 0) None (Some (drop n (x ∷ xs)))) (whole_digits (x ∷ xs) all) ∙ ap (λ b. cond b None (Some (drop (length (x ∷ xs)) (x ∷ xs)))) some
        ∙ ap Some (drop_all (length (x ∷ xs)) (x ∷ xs) (omega arith))

digit_spells : (x : ℕ) → is_ascii_digit x ≡ true → digit_value x + 48 ≡ x
digit_spells x digit = let both = and_parts (nat_le 48 x) (nat_le x 57) digit in digit_value_digit x (leb-true 48 x both.0, leb-true x 57 both.1)

digit_small : (x : ℕ) → is_ascii_digit x ≡ true → digit_value x < 10
digit_small x digit = let both = and_parts (nat_le 48 x) (nat_le x 57) digit in omega (arith, leb-true 48 x both.0, leb-true x 57 both.1, digit_spells x digit)

all_digits : (s : List ℕ) → list_all is_ascii_digit s ≡ true → AllDigits 10 s
all_digits [] all = tt
all_digits (x ∷ xs) all = let both = and_parts (is_ascii_digit x) (list_all is_ascii_digit xs) all in (digit_small x both.0, all_digits xs both.1)

-- the parts of digits alone
abbrev digit_parts : List ℕ → Parts
digit_parts s = record { whole = s; point = false; fraction = []; exponent_negative = false; exponent = []; len = length s }

digits-scan : (s : List ℕ) → AllDigits 10 s → scan s ≡ digit_parts s
digits-scan s digits =
    ap scan (sym (append-nil s))
    ∙ scan-text_of (digit_parts s) (record { whole_digits = digits; fraction_digits = tt; exponent_digits = tt; no_point = λ e. refl; no_exponent = λ e. refl; len_is = ap length (sym (append-nil s)) })

-- digits are read as what they spell
pub numeral-reads : (s : List ℕ) → list_all is_ascii_digit s ≡ true → 0 < length s → digits_value 10 s < 2 ^ 64 → number_of s ≡ Some (unsigned (digits_value 10 s))
unfolding number_of
numeral-reads [] all some small = absurd (omega (arith, some))
numeral-reads (x ∷ xs) all some small =
    let s = x ∷ xs in
    let both = and_parts (is_ascii_digit x) (list_all is_ascii_digit xs) all in
    let no_minus : (x == 45) ≡ false = ne_eqb x 45 (λ e. omega (arith, e, digit_spells x both.0)) in
    let value : digits_value 10 (s ++ []) ≡ digits_value 10 s = ap (digits_value 10) (append-nil s) in
    rw (no_minus, digits-scan s (all_digits s all), lt-ltb 0 (length s) some, value, lt-ltb (digits_value 10 s) (2 ^ 64) small) refl

-- and with no 0 in front they are what is written of that number
own_digits : IsNumeralModel (AllDigits 10) (digits_value 10)
own_digits = record { to = λ s are. are; from = λ s are. are; same = λ s are. refl }

pub numeral-written : (s : List ℕ) → list_all is_ascii_digit s ≡ true → 0 < length s → (1 < length s → head s ≡ 48 → ⊥) → digits_value 10 s < 2 ^ 64 → s ≡ decimal (digits_value 10 s)
numeral-written [] all some no_zero small = absurd (omega (arith, some))
numeral-written (x ∷ xs) all some no_zero small =
    let alone : x ≡ 48 → length (x ∷ xs) ≡ 1 = λ zero. single xs (λ more. no_zero more zero) in
    sym (decimal-digits_value own_digits (x ∷ xs) (all_digits (x ∷ xs) all) some alone small)
  where
    single : (ys : List ℕ) → (1 < length (x ∷ ys) → ⊥) → length (x ∷ ys) ≡ 1
    single [] none = refl
    single (y ∷ ys) none = absurd (none (omega arith))

-- one digit more
pub number_more : (d : List ℕ) (n : ℕ) → n < length d → is_ascii_digit (get_or d n 0) ≡ true → digits_value 10 (take (n + 1) d) ≡ digits_value 10 (take n d) * 10 + (get_or d n 0 - 48)
number_more d n some digit =
    let one : n + 1 ≡ suc n = omega arith in
    let more : take (n + 1) d ≡ take n d ++ get_or d n 0 ∷ [] = ap (λ k. take k d) one ∙ take-suc d n 0 some in
    let spells : digit_value (get_or d n 0) ≡ get_or d n 0 - 48 = omega (arith, digit_spells (get_or d n 0) digit) in
    ap (digits_value 10) more ∙ digits_value_push 10 (take n d) (get_or d n 0) ∙ ap (λ v. digits_value 10 (take n d) * 10 + v) spells

-- ---- tokens at the front of a text, in which blanks were passed

module _ (whole front rest : List ℕ) (same : lex between front ≡ lex between whole) where
  pub object_opens : (p : Position) → may_begin p ≡ true → front ≡ 123 ∷ rest → tokens_at p whole ≡ begin_object ∷ tokens_at Fresh rest
  unfolding lex punctuate
  object_opens Fresh may is = rw (← same, is) refl
  object_opens AfterComma may is = rw (← same, is) refl
  object_opens AfterValue may is = absurd (false≢true may)

  pub list_opens : (p : Position) → may_begin p ≡ true → front ≡ 91 ∷ rest → tokens_at p whole ≡ begin_array ∷ tokens_at Fresh rest
  unfolding lex punctuate
  list_opens Fresh may is = rw (← same, is) refl
  list_opens AfterComma may is = rw (← same, is) refl
  list_opens AfterValue may is = absurd (false≢true may)

  pub object_closes : (p : Position) → may_close p ≡ true → front ≡ 125 ∷ rest → tokens_at p whole ≡ end_object ∷ punctuate after_value (lex between rest)
  unfolding lex punctuate
  object_closes Fresh may is = rw (← same, is) refl
  object_closes AfterComma may is = absurd (false≢true may)
  object_closes AfterValue may is = rw (← same, is) refl

  pub list_closes : (p : Position) → may_close p ≡ true → front ≡ 93 ∷ rest → tokens_at p whole ≡ end_array ∷ punctuate after_value (lex between rest)
  unfolding lex punctuate
  list_closes Fresh may is = rw (← same, is) refl
  list_closes AfterComma may is = absurd (false≢true may)
  list_closes AfterValue may is = rw (← same, is) refl

  pub key_comes : (p : Position) (name : List ℕ) → may_begin p ≡ true → escape name ≡ name → front ≡ 34 ∷ (name ++ 34 ∷ 58 ∷ rest) → tokens_at p whole ≡ key name ∷ tokens_at Fresh rest
  unfolding lex punctuate
  key_comes p name may plain_name is = go p may
    where
      lexes : lex between whole ≡ token (string name) ∷ lex between (58 ∷ rest)
      lexes = sym same ∙ ap (lex between) is ∙ text-lex name (58 ∷ rest) plain_name

      go : (p : Position) → may_begin p ≡ true → tokens_at p whole ≡ key name ∷ tokens_at Fresh rest
      go Fresh may = rw lexes refl
      go AfterComma may = rw lexes refl
      go AfterValue may = absurd (false≢true may)

  pub text_comes : (p : Position) (opened text : List ℕ) → may_begin p ≡ true → front ≡ 34 ∷ opened → IsQuotedText opened text rest → follows_value (head rest) ≡ true
      → tokens_at p whole ≡ string text ∷ punctuate after_value (lex between rest)
  unfolding punctuate
  text_comes p opened text may is quoted ends = go p may
    where
      lexes : lex between whole ≡ token (string text) ∷ lex between rest
      lexes = sym same ∙ ap (lex between) (is ∙ ap (λ t. 34 ∷ t) quoted.parts) ∙ text-lex text rest quoted.plain

      go : (p : Position) → may_begin p ≡ true → tokens_at p whole ≡ string text ∷ punctuate after_value (lex between rest)
      go Fresh may = rw (lexes, no_colon rest ends) refl
      go AfterComma may = rw (lexes, no_colon rest ends) refl
      go AfterValue may = absurd (false≢true may)

  pub number_comes : (p : Position) (n : ℕ) → may_begin p ≡ true → (is : IsNumeral front n rest) → tokens_at p whole ≡ number is.numeral ∷ punctuate after_value (lex between rest)
  unfolding punctuate
  number_comes p n may is = go p may
    where
      lexes : lex between whole ≡ token (number is.numeral) ∷ lex between rest
      lexes = sym same ∙ ap (lex between) is.parts ∙ lex-number is.numeral rest is.number (word_ends rest is.ends)

      go : (p : Position) → may_begin p ≡ true → tokens_at p whole ≡ number is.numeral ∷ punctuate after_value (lex between rest)
      go Fresh may = rw lexes refl
      go AfterComma may = rw lexes refl
      go AfterValue may = absurd (false≢true may)

-- the comma after a value
pub comma_passed : (text rest : List ℕ) → text ≡ 44 ∷ rest → tokens_at AfterComma rest ≡ punctuate after_value (lex between text)
unfolding lex punctuate
comma_passed text rest is = rw is refl

-- no token is left
pub at_end : (p : Position) (whole front : List ℕ) → lex between front ≡ lex between whole → may_close p ≡ true → front ≡ [] → tokens_at p whole ≡ []
unfolding lex punctuate
at_end Fresh whole front same may is = rw (← same, is) refl
at_end AfterComma whole front same may is = absurd (false≢true may)
at_end AfterValue whole front same may is = rw (← same, is) refl

-- ---- the front of a text

-- a byte of ASCII may be cut off
pub cut_after : (text : List ℕ) (i byte : ℕ) → IsUtf8 text → i < length text → get_or text i 32 ≡ byte → byte < 128 → IsCharBoundary text (i + 1)
cut_after text i byte utf8 within is small = IsCharBoundary-after_ascii text i utf8 within (omega (arith, get_or_default text i 0 32 within, is, small))

-- a byte that is no blank stands in the text
pub within : (text : List ℕ) (i byte : ℕ) → get_or text i 32 ≡ byte → (byte ≡ 32 → ⊥) → i < length text
within text i byte is other = lt_of_not-le (λ past. other (sym is ∙ get_or_past text i 32 past))

pub front_is : (text : List ℕ) (byte : ℕ) → 0 < length text → get_or text 0 32 ≡ byte → text ≡ byte ∷ drop 1 text
front_is text byte some is = drop_more text 0 32 some ∙ ap (λ b. b ∷ drop 1 text) is

pub key_is : (text name : List ℕ) → text ≡ name ++ drop (length name) text → get_or text (length name) 32 ≡ 34 → get_or text (length name + 1) 32 ≡ 58 → text ≡ name ++ 34 ∷ 58 ∷ drop (length name + 2) text
key_is text name begins quote colon =
    let n = length name in
    let first : drop n text ≡ 34 ∷ drop (n + 1) text = drop_more text n 32 (within text n 34 quote (λ e. omega (arith, e))) ∙ ap (λ b. b ∷ drop (n + 1) text) quote in
    let two : n + 1 + 1 ≡ n + 2 = omega arith in
    let second : drop (n + 1) text ≡ 58 ∷ drop (n + 2) text = drop_more text (n + 1) 32 (within text (n + 1) 58 colon (λ e. omega (arith, e))) ∙ ap₂ (λ b k. b ∷ drop k text) colon two in
    begins ∙ ap (λ t. name ++ t) (first ∙ ap (λ t. 34 ∷ t) second)

-- one byte more that stands for itself
pub plain_more : (d : List ℕ) (n : ℕ) → n < length d → 32 ≤ get_or d n 0 → (get_or d n 0 ≡ 34 → ⊥) → (get_or d n 0 ≡ 92 → ⊥) → escape (take n d) ≡ take n d → escape (take (n + 1) d) ≡ take (n + 1) d
plain_more d n some least no_quote no_backslash before =
    let one : n + 1 ≡ suc n = omega arith in
    let more : take (n + 1) d ≡ take n d ++ get_or d n 0 ∷ [] = ap (λ k. take k d) one ∙ take-suc d n 0 some in
    ap escape more ∙ flat_map-append escape_byte (take n d) (get_or d n 0 ∷ []) ∙ ap₂ (λ a b. a ++ (b ++ [])) before (escape_byte_plain (get_or d n 0) no_quote no_backslash least) ∙ sym more

-- one digit more
pub digits_more : (d : List ℕ) (n : ℕ) → n < length d → is_ascii_digit (get_or d n 0) ≡ true → list_all is_ascii_digit (take n d) ≡ true → list_all is_ascii_digit (take (n + 1) d) ≡ true
digits_more d n some digit before =
    let one : n + 1 ≡ suc n = omega arith in
    let more : take (n + 1) d ≡ take n d ++ get_or d n 0 ∷ [] = ap (λ k. take k d) one ∙ take-suc d n 0 some in
    ap (list_all is_ascii_digit) more ∙ list_all-append is_ascii_digit (take n d) (get_or d n 0 ∷ []) ∙ rw (before, digit) refl
