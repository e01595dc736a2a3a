-- The tokens of a text, where they are read as they stand.
use Rattle.std.specs.Prelude.{◌≡◌, ℕ, List, ◌∷◌, ◌++◌, Bool, true, false, ◌||◌, ◌==◌, Some, decimal}
use Rattle.json.specs.Lex.{between, lex, punctuate, fresh, after_comma, after_value}
use Rattle.json.specs.Print.{escape, IsNumber}
use Rattle.json.specs.Token.{Token}
use Rattle.json.specs.Word.{head}
use Rattle.serde_json.specs.Data.{unsigned}
use Rattle.serde_json.specs.Read.{number_of}
use Rattle.voucher_json.specs.declared.plain_reader.Position.{Position}
use Rattle.voucher_json.specs.declared.plain_reader.Position.TheVariants.{Fresh, AfterComma, AfterValue}

-- the tokens of what is left of a text
abbrev pub tokens_at : Position → List ℕ → List Token
tokens_at Fresh rest = punctuate fresh (lex between rest)
tokens_at AfterComma rest = punctuate after_comma (lex between rest)
tokens_at AfterValue rest = punctuate after_value (lex between rest)

abbrev pub may_begin : Position → Bool
may_begin Fresh = true
may_begin AfterComma = true
may_begin AfterValue = false

abbrev pub may_close : Position → Bool
may_close Fresh = true
may_close AfterComma = false
may_close AfterValue = true

-- the bytes between tokens that mean nothing
abbrev pub is_blank : ℕ → Bool
is_blank byte = (byte == 32) || (byte == 9) || (byte == 10) || (byte == 13)

-- a comma or a closing bracket, as comes after a value
abbrev pub follows_value : ℕ → Bool
follows_value byte = (byte == 44) || (byte == 125) || (byte == 93)

-- a text with nothing escaped, its closing quote, and then the rest
pub record IsQuotedText (whole text rest : List ℕ) : Type 0 where
  pub parts : whole ≡ text ++ 34 ∷ rest
  pub plain : escape text ≡ text

-- a whole number, written in one way, that ends where the rest begins
pub record IsNumeral (whole : List ℕ) (n : ℕ) (rest : List ℕ) : Type 0 where
  pub numeral : List ℕ
  pub parts : whole ≡ numeral ++ rest
  pub written : numeral ≡ decimal n
  pub number : IsNumber numeral
  pub reads : number_of numeral ≡ Some (unsigned n)
  pub ends : follows_value (head rest) ≡ true
