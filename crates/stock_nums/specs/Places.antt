-- Posting order: by date, second, record, line, and what leaves before what enters.
use Rattle.std.specs.Prelude.{ℕ, Bool, ◌&&◌, ◌||◌, ◌==◌, nat_lt}
use Rattle.stock_nums.specs.declared.moment.Moment.{Moment}
use Rattle.stock_nums.specs.declared.place.Place.{Place}
use Rattle.stock_nums.specs.declared.place.Side.{Side}
use Rattle.stock_nums.specs.declared.place.Side.TheVariants.{Leaves, Enters}

-- a comes first, or they tie and rest decides
abbrev pub first_by : ℕ → ℕ → Bool → Bool
first_by a b rest = nat_lt a b || ((a == b) && rest)

-- the first moment is after the second
abbrev pub is_later : Moment → Moment → Bool
is_later a b = first_by b.date a.date (nat_lt b.second a.second)

abbrev pub side_rank : Side → ℕ
side_rank Leaves = 0
side_rank Enters = 1

-- p comes before q in posting order
abbrev pub is_before : Place → Place → Bool
is_before p q =
    first_by p.moment.date q.moment.date
    (first_by p.moment.second q.moment.second (first_by p.voucher.0 q.voucher.0 (first_by p.line q.line (nat_lt (side_rank p.side) (side_rank q.side)))))
