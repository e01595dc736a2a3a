-- Whether two places are one.
use Rattle.std.specs.Prelude.{Bool, ◌&&◌, ◌==◌}
use Rattle.stock_nums.specs.Places.{side_rank}
use Rattle.stock_nums.specs.declared.place.Place.{Place}

-- the two places are one
abbrev pub is_same_place : Place → Place → Bool
is_same_place p q =
    (p.moment.date == q.moment.date)
    && ((p.moment.second == q.moment.second)
    && ((p.voucher.0 == q.voucher.0) && ((p.line == q.line) && (side_rank p.side == side_rank q.side))))
