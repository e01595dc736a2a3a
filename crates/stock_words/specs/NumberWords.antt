-- Words that tell a number.
use Rattle.std.specs.Prelude.{ℕ, ◌≡◌, ◌<◌, ◌≤◌, List, All, length}
use Rattle.std.specs.Char.{IsAsciiDigit}
use Rattle.std.specs.Str.Parse.{digits_value}
use Rattle.stock_words.specs.declared.number_words.TheConstants.{MAX_DIGITS}

-- the word is 1 to 10 digits, and they tell this number, from 1 to the greatest
pub record IsNumber (most : ℕ) (word : List ℕ) (n : ℕ) : Type 0 where
  pub some : 0 < length word
  pub few : length word ≤ MAX_DIGITS
  pub digits : All IsAsciiDigit word
  pub told : digits_value 10 word ≡ n
  pub least : 0 < n
  pub within : n ≤ most

-- the word tells no such number
abbrev pub IsNoNumber : ℕ → List ℕ → Type 0
IsNoNumber most word = (n : ℕ) → IsNumber most word n → ⊥
