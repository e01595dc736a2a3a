-- How a moment is spelled: YYYY-MM-DDTHH:MM:SS.
use Rattle.std.specs.Prelude.{◌≡◌, ℕ, ◌+◌, ◌-◌, ◌*◌, ◌/◌, ◌%◌, ◌<◌, ◌≤◌, List, [], ◌∷◌, length, slice_index, pos}
use Rattle.jiff.specs.Words.{IsDate}
use Rattle.stock_nums.specs.declared.moment.Moment.{Moment}

-- the bytes at this place and the next are ASCII digits
pub record IsTwoDigits (bytes : List ℕ) (at : ℕ) : Type 0 where
  pub tens : (48 ≤ slice_index bytes at) × (slice_index bytes at ≤ 57)
  pub ones : (48 ≤ slice_index bytes (at + 1)) × (slice_index bytes (at + 1) ≤ 57)

-- the number that the two digits from this place spell
abbrev pub two_digits : List ℕ → ℕ → ℕ
two_digits bytes at = 10 * (slice_index bytes at - 48) + (slice_index bytes (at + 1) - 48)

-- the bytes are dddd-dd-ddTdd:dd:dd, where each d is an ASCII digit
pub record HasMomentShape (bytes : List ℕ) : Type 0 where
  pub whole : length bytes ≡ 19
  pub century : IsTwoDigits bytes 0
  pub year : IsTwoDigits bytes 2
  pub first_hyphen : slice_index bytes 4 ≡ 45
  pub month : IsTwoDigits bytes 5
  pub second_hyphen : slice_index bytes 7 ≡ 45
  pub day : IsTwoDigits bytes 8
  pub letter_t : slice_index bytes 10 ≡ 84
  pub hour : IsTwoDigits bytes 11
  pub first_colon : slice_index bytes 13 ≡ 58
  pub minute : IsTwoDigits bytes 14
  pub second_colon : slice_index bytes 16 ≡ 58
  pub second : IsTwoDigits bytes 17

-- the four digits of the year
abbrev pub year_digits : List ℕ → ℕ
year_digits bytes = 100 * two_digits bytes 0 + two_digits bytes 2

-- the spelled day is in the calendar from the year 1 on, and the spelled time is in the day
pub record IsMomentInRange (bytes : List ℕ) : Type 0 where
  pub year : 0 < year_digits bytes
  pub date : IsDate (pos (year_digits bytes)) (pos (two_digits bytes 5)) (pos (two_digits bytes 8))
  pub hour : two_digits bytes 11 < 24
  pub minute : two_digits bytes 14 < 60
  pub second : two_digits bytes 17 < 60

-- the bytes spell the moment
pub record SpellsMoment (bytes : List ℕ) (moment : Moment) : Type 0 where
  pub shape : HasMomentShape bytes
  pub in_range : IsMomentInRange bytes
  pub date : moment.date ≡ 10000 * year_digits bytes + 100 * two_digits bytes 5 + two_digits bytes 8
  pub second : moment.second ≡ 3600 * two_digits bytes 11 + 60 * two_digits bytes 14 + two_digits bytes 17

-- the text with these parts, of two digits each
abbrev pub text_of : (century year month day hour minute second : ℕ) → List ℕ
text_of century year month day hour minute second =
    (48 + century / 10) ∷ (48 + century % 10) ∷ (48 + year / 10) ∷ (48 + year % 10) ∷ 45
    ∷ (48 + month / 10) ∷ (48 + month % 10) ∷ 45 ∷ (48 + day / 10) ∷ (48 + day % 10) ∷ 84
    ∷ (48 + hour / 10) ∷ (48 + hour % 10) ∷ 58 ∷ (48 + minute / 10) ∷ (48 + minute % 10) ∷ 58
    ∷ (48 + second / 10) ∷ (48 + second % 10) ∷ []

-- the text of a moment
abbrev pub moment_text : Moment → List ℕ
moment_text moment =
    text_of (moment.date / 1000000) (moment.date / 10000 % 100) (moment.date / 100 % 100) (moment.date % 100)
    (moment.second / 3600) (moment.second / 60 % 60) (moment.second % 60)
