-- Texts in which neither JSON nor CSV sets a byte apart: codes and numbers.
use Rattle.std.proofs.Common.{◌≡◌, ℕ, zero, suc, ◌/◌, ◌%◌, ◌<◌, Bool, true, false, cond, ◌&&◌, ◌||◌, not, List, [], ◌∷◌, ◌++◌, decimal, refl, ap, ◌∙◌, arith}
use Rattle.std.specs.Prelude.{nat_lt, nat_eq, ◌==◌}
use Rattle.std.specs.List.{list_all}
use Rattle.std.proofs.lemmas.Bool.Decides.{nat_tests}
use Rattle.std.specs.Fmt.{digit_glyph, digits_onto, digits}
use Rattle.csv.specs.Writing.{default_writer, needs_byte, needs_quotes, quoted, field_text}
use Rattle.json.specs.Print.{escape_byte, escape, escape_letter}
use Rattle.stock_nums.specs.Codes.{is_code_byte}
use Rattle.stock_laws.proofs.CostedRows.{both}
use Rattle.stock_laws.proofs.TestedSums.{both-first, both-second}

-- above the comma, and no backslash
abbrev pub is_plain_byte : ℕ → Bool
is_plain_byte byte = nat_lt 44 byte && not (byte == 92)

abbrev pub is_plain : List ℕ → Bool
is_plain bytes = list_all is_plain_byte bytes

-- such a byte stands for itself in a text of JSON
no_letter : (byte : ℕ) → is_plain_byte byte ≡ true → escape_letter byte ≡ 0
no_letter byte plain = grind (arith, nat_tests)

escape_byte-plain : (byte : ℕ) → is_plain_byte byte ≡ true → escape_byte byte ≡ byte ∷ []
unfolding escape_byte
escape_byte-plain byte plain = grind (arith, nat_tests, no_letter)

pub escape-plain : (bytes : List ℕ) → is_plain bytes ≡ true → escape bytes ≡ bytes
escape-plain [] plain = refl
escape-plain (byte ∷ bytes) plain =
    ap (λ (text : List ℕ). text ++ escape bytes) (escape_byte-plain byte (both-first (is_plain_byte byte) (is_plain bytes) plain))
    ∙ ap (λ (text : List ℕ). byte ∷ text) (escape-plain bytes (both-second (is_plain_byte byte) (is_plain bytes) plain))

-- and calls for no quotes in a field of CSV
needs_byte-plain : (byte : ℕ) → is_plain_byte byte ≡ true → needs_byte default_writer byte ≡ false
needs_byte-plain byte plain = grind (arith, nat_tests)

needs_quotes-plain : (bytes : List ℕ) → is_plain bytes ≡ true → needs_quotes default_writer bytes ≡ false
needs_quotes-plain [] plain = refl
needs_quotes-plain (byte ∷ bytes) plain =
    ap (λ (b : Bool). b || needs_quotes default_writer bytes) (needs_byte-plain byte (both-first (is_plain_byte byte) (is_plain bytes) plain))
    ∙ needs_quotes-plain bytes (both-second (is_plain_byte byte) (is_plain bytes) plain)

pub field_text-plain : (bytes : List ℕ) → is_plain bytes ≡ true → field_text default_writer bytes ≡ bytes
field_text-plain bytes plain = ap (λ (b : Bool). cond b (quoted default_writer bytes) bytes) (needs_quotes-plain bytes plain)

-- codes are plain
code_byte-plain : (byte : ℕ) → is_code_byte byte ≡ true → is_plain_byte byte ≡ true
code_byte-plain byte code = grind (arith, nat_tests)

pub plain-code : (bytes : List ℕ) → list_all is_code_byte bytes ≡ true → is_plain bytes ≡ true
plain-code [] code = refl
plain-code (byte ∷ bytes) code =
    both (code_byte-plain byte (both-first (is_code_byte byte) (list_all is_code_byte bytes) code))
    (plain-code bytes (both-second (is_code_byte byte) (list_all is_code_byte bytes) code))

-- and so are numbers
digit-plain : (d : ℕ) → d < 10 → is_plain_byte (digit_glyph false d) ≡ true
digit-plain d small = grind (arith, nat_tests)

digits-plain : (k n : ℕ) (after : List ℕ) → is_plain after ≡ true → is_plain (digits_onto k 10 false n after) ≡ true
digits-plain zero n after plain = plain
digits-plain (suc k) n after plain =
    let digit : is_plain (digit_glyph false (n % 10) ∷ after) ≡ true = both (digit-plain (n % 10) (omega arith)) plain in
    elim (nat_eq (n / 10) 0) as (λ b. is_plain (cond b (digit_glyph false (n % 10) ∷ after) (digits_onto k 10 false (n / 10) (digit_glyph false (n % 10) ∷ after))) ≡ true) [
      | true ↦ digit
      | false ↦ digits-plain k (n / 10) (digit_glyph false (n % 10) ∷ after) digit
    ]

pub plain-decimal : (n : ℕ) → is_plain (decimal n) ≡ true
unfolding digits
plain-decimal n = digits-plain 64 n [] refl
