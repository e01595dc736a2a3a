-- The text of a moment is ASCII.
use Rattle.std.proofs.Common.{ℕ, ◌<◌, ◌≤◌, List, [], ◌∷◌, arith}
use Rattle.std.proofs.lemmas.Str.{IsUtf8-from_ascii}
use Rattle.std.proofs.lemmas.Str.Ascii.{IsAscii-nil, IsAscii-cons}
use Rattle.std.specs.Str.{IsAscii, IsUtf8}
use Rattle.stock_nums.specs.MomentText.{HasMomentShape, SpellsMoment, text_of, moment_text}
use Rattle.stock_nums.specs.declared.moment.Moment.{Moment}

-- each byte is ASCII
record IsAsciiText (bytes : List ℕ) : Type 0 where
  each : IsAscii bytes

none : IsAsciiText []
none = record { each = IsAscii-nil }

-- a byte and more
one : (byte : ℕ) (bytes : List ℕ) → byte < 128 → IsAsciiText bytes → IsAsciiText (byte ∷ bytes)
one byte bytes small ascii = record { each = IsAscii-cons byte bytes small ascii.each }

-- two digits and more
two : (tens ones : ℕ) (bytes : List ℕ) → (48 ≤ tens) × (tens ≤ 57) → (48 ≤ ones) × (ones ≤ 57) → IsAsciiText bytes → IsAsciiText (tens ∷ ones ∷ bytes)
two tens ones bytes tens_is ones_is ascii = one tens (ones ∷ bytes) (omega arith) (one ones bytes (omega arith) ascii)

text_of-ascii : (c y m d h n s : ℕ) → HasMomentShape (text_of c y m d h n s) → IsAsciiText (text_of c y m d h n s)
text_of-ascii c y m d h n s shape =
    two _ _ _ shape.century.tens shape.century.ones
    (two _ _ _ shape.year.tens shape.year.ones
    (one _ _ (omega arith)
    (two _ _ _ shape.month.tens shape.month.ones
    (one _ _ (omega arith)
    (two _ _ _ shape.day.tens shape.day.ones
    (one _ _ (omega arith)
    (two _ _ _ shape.hour.tens shape.hour.ones
    (one _ _ (omega arith)
    (two _ _ _ shape.minute.tens shape.minute.ones
    (one _ _ (omega arith)
    (two _ _ _ shape.second.tens shape.second.ones none)))))))))))

-- so it is UTF-8
pub moment_text-utf8 : (moment : Moment) → SpellsMoment (moment_text moment) moment → IsUtf8 (moment_text moment)
moment_text-utf8 moment spells = IsUtf8-from_ascii _ (text_of-ascii _ _ _ _ _ _ _ spells.shape).each
