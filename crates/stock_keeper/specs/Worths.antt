-- Worths by record, line and side, and what a publication makes of them.
use Rattle.std.specs.Prelude.{◌==◌, Bool, ◌&&◌, nat_lt, not, List, [], ◌∷◌, fold, filter, IsTrue, AllPairs, if◌then◌else◌}
use Rattle.std.specs.List.{list_any}
use Rattle.stock_nums.specs.Places.{first_by, side_rank}
use Rattle.stock_nums.specs.declared.place.Spot.{Spot}
use Rattle.stock_keeper.specs.declared.changes.Changes.{Changes}
use Rattle.stock_keeper.specs.declared.changes.SpotWorth.{SpotWorth}

-- the first spot comes before the second: by record, line, and what leaves before what enters
abbrev pub is_spot_before : Spot → Spot → Bool
is_spot_before a b =
    first_by a.voucher.0 b.voucher.0 (first_by a.line b.line (nat_lt (side_rank a.side) (side_rank b.side)))

-- the two are one spot
abbrev pub is_same_spot : Spot → Spot → Bool
is_same_spot a b =
    (a.voucher.0 == b.voucher.0) && ((a.line == b.line) && (side_rank a.side == side_rank b.side))

-- the spot of the first worth comes before that of the second
abbrev pub IsBefore : SpotWorth → SpotWorth → Type 0
IsBefore a b = IsTrue (is_spot_before a.spot b.spot)

-- the worths stand by record, line and side, each spot once
abbrev pub AreInOrder : List SpotWorth → Type 0
AreInOrder worths = AllPairs IsBefore worths

-- the worths with one put in at its spot, in place of one that stands there
abbrev pub put : List SpotWorth → SpotWorth → List SpotWorth
put [] w = w ∷ []
put (v ∷ vs) w =
    if is_spot_before v.spot w.spot then v ∷ put vs w else if is_spot_before w.spot v.spot then w ∷ v ∷ vs else w ∷ vs

-- the spot is one of these
abbrev pub is_among : List Spot → Spot → Bool
is_among spots spot = list_any (λ s. is_same_spot s spot) spots

-- the worths without those at these spots
abbrev pub without : List Spot → List SpotWorth → List SpotWorth
without spots worths = filter (λ w. not (is_among spots w.spot)) worths

-- the worths with each new one put in, and then without those that are gone
abbrev pub changed_worths : Changes → List SpotWorth → List SpotWorth
changed_worths changes worths = without changes.gone (fold put worths changes.rows)
