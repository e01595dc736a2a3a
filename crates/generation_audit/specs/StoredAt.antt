-- What maps by spots hold.
use Rattle.std.specs.Prelude.{Bool, false, Option, unwrap_or}
use Rattle.std.specs.BTreeMap.{BTreeMap, get}
use Rattle.std.specs.declared.cmp.Ordering.{Ordering}
use Rattle.stock_nums.specs.contracts.place.SpotOrd.TheImpl as spot_order
use Rattle.stock_nums.specs.declared.entry.Worth.{Worth}
use Rattle.stock_nums.specs.declared.place.Spot.{Spot}
use Rattle.generation_audit.specs.declared.stored_worths.FreeSpots.{FreeSpots}

-- the order of spots
abbrev pub spot_cmp : Spot → Spot → Ordering
spot_cmp = (spot_order.ghosts).cmp

-- what a map has at the spot
abbrev pub first_at : BTreeMap Spot Worth → Spot → Option Worth
first_at found spot = get spot_cmp found spot

-- whether the spot is marked
abbrev pub mark_at : FreeSpots → Spot → Bool
mark_at free spot = unwrap_or (get spot_cmp free.marks spot) false
