-- Closed books: up to which moment the records of a journal close the past.
use Rattle.std.specs.Prelude.{Bool, not, List, [], ◌∷◌, if◌then◌else◌, Option, Some, None}
use Rattle.std.specs.List.{filter_map}
use Rattle.stock_nums.specs.Places.{is_later}
use Rattle.stock_nums.specs.declared.moment.Moment.{Moment}
use Rattle.stock_model.specs.declared.records.Record.{Record}
use Rattle.stock_model.specs.declared.vouchers.What.{What}
use Rattle.stock_model.specs.declared.vouchers.What.TheVariants.{Freeze}

-- up to which moment what is said closes the past
abbrev pub closed_by : What → Option Moment
closed_by (Freeze until) = Some until
closed_by _ = None

abbrev pub record_closes : Record → Option Moment
record_closes item = closed_by item.what

-- the later of two moments
abbrev pub later_of : Moment → Moment → Moment
later_of a b = if is_later b a then b else a

-- the later of two moments of which each may be missing
abbrev pub later_if_any : Option Moment → Option Moment → Option Moment
later_if_any None b = b
later_if_any (Some a) None = Some a
later_if_any (Some a) (Some b) = Some (later_of a b)

-- the latest of the moments, if there is one
abbrev pub latest : List Moment → Option Moment
latest [] = None
latest (m ∷ ms) = later_if_any (Some m) (latest ms)

-- up to which moment the records of the journal close the past: the latest of all freezes, if there is one
unfoldable pub frozen : List Record → Option Moment
frozen journal = latest (filter_map record_closes journal)

-- the moment is closed where the past is closed up to another: it isn't after that one
abbrev pub is_closed : Moment → Moment → Bool
is_closed until at = not (is_later at until)
