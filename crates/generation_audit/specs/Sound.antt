-- Stored worths that are those of rows, each once.
use Rattle.std.specs.Prelude.{◌≡◌, false, List, Some, Contains, AllPairs}
use Rattle.stock_nums.specs.declared.entry.Row.{Row}
use Rattle.stock_keeper.specs.Worths.{is_same_spot}
use Rattle.stock_keeper.specs.declared.changes.SpotWorth.{SpotWorth}
use Rattle.kept_tables.specs.Differences.{worth_at}
use Rattle.kept_tables.specs.TablesOf.{spot_of, spot_worth}

-- the two stand at different spots
abbrev pub StandApart : SpotWorth → SpotWorth → Type 0
StandApart a b = is_same_spot a.spot b.spot ≡ false

-- each row's worth is stored at its spot, no other worth is stored, and none twice
pub record AreWorthsOf (rows : List Row) (worths : List SpotWorth) : Type 0 where
  pub each : (row : Row) → Contains rows row → worth_at worths (spot_of row.entry.place) ≡ Some row.worth
  pub only : (w : SpotWorth) → Contains worths w → (row : Row) × Contains rows row × (spot_worth row ≡ w)
  pub once : AllPairs StandApart worths
