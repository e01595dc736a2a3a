-- The civil calendar from the year 1 to the year 9999.
use Rattle.std.specs.Prelude.{ℕ, ◌/◌, ◌%◌, ◌<◌, pos}
use Rattle.jiff.specs.Words.{IsDate}

-- the calendar has the day whose eight digits YYYYMMDD are this number, and its year is not 0
abbrev pub IsCalendarDate : ℕ → Type 0
IsCalendarDate date = (0 < date / 10000) × IsDate (pos (date / 10000)) (pos (date / 100 % 100)) (pos (date % 100))
