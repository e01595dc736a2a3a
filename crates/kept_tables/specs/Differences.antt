-- Where stored worths differ from those of a replay.
use Rattle.std.specs.Prelude.{◌≡◌, ◌≢◌, Bool, true, List, Option, None, IfSome}
use Rattle.std.specs.List.{find}
use Rattle.std.specs.Option.{option_map}
use Rattle.stock_nums.specs.declared.entry.Worth.{Worth}
use Rattle.stock_nums.specs.declared.place.Spot.{Spot}
use Rattle.stock_keeper.specs.Worths.{is_spot_before, is_same_spot}
use Rattle.stock_keeper.specs.declared.changes.SpotWorth.{SpotWorth}
use Rattle.kept_tables.specs.declared.differing.Difference.{Difference}

abbrev pub worth_in : SpotWorth → Worth
worth_in w = w.worth

abbrev pub is_at : Spot → SpotWorth → Bool
is_at spot w = is_same_spot w.spot spot

-- what stands at the spot, if anything does
abbrev pub worth_at : List SpotWorth → Spot → Option Worth
worth_at worths spot = option_map worth_in (find (is_at spot) worths)

-- at this spot the two differ, and at none before it
pub record IsFirstDifference (stored replayed : List SpotWorth) (spot : Spot) : Type 0 where
  pub differs : worth_at stored spot ≢ worth_at replayed spot
  pub first : (s : Spot) → is_spot_before s spot ≡ true → worth_at stored s ≡ worth_at replayed s

-- this is told of the two: their first difference, or none where they are the same
pub record IsTold (kept made : List SpotWorth) (told : Option Difference) : Type 0 where
  pub first : IfSome told (λ d. IsFirstDifference kept made d.spot)
  pub stored : IfSome told (λ d. d.stored ≡ worth_at kept d.spot)
  pub replayed : IfSome told (λ d. d.replayed ≡ worth_at made d.spot)
  pub same : told ≡ None → kept ≡ made

-- an entry of a map by spots
abbrev pub entry_worth : Spot × Worth → SpotWorth
entry_worth entry = record { spot = entry.0; worth = entry.1 }
