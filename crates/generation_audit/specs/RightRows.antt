-- Which stored worths are right: that of each movement over the rows stored before it, and no other one.
use Rattle.std.specs.Prelude.{◌≡◌, Bool, true, not, ◌&&◌, List, [], ◌∷◌, ◌++◌, Option, Some}
use Rattle.std.specs.List.{filter_map, list_any}
use Rattle.std.specs.Option.{option_map}
use Rattle.stock_nums.specs.declared.entry.Entry.{Entry}
use Rattle.stock_nums.specs.declared.entry.Row.{Row}
use Rattle.stock_nums.specs.declared.entry.Worth.{Worth}
use Rattle.stock_nums.specs.declared.place.Spot.{Spot}
use Rattle.stock_model.specs.Replay.{valued}
use Rattle.stock_model.specs.declared.records.Record.{Record}
use Rattle.stock_keeper.specs.Worths.{is_same_spot}
use Rattle.stock_keeper.specs.declared.changes.SpotWorth.{SpotWorth}
use Rattle.kept_tables.specs.Differences.{is_at, worth_at}
use Rattle.kept_tables.specs.TablesOf.{spot_of}

-- where a movement's worth is stored
abbrev pub entry_spot : Entry → Spot
entry_spot e = spot_of e.place

-- what is stored of the movement: of several worths at its spot the first
abbrev pub stored_worth : List SpotWorth → Entry → Option Worth
stored_worth worths e = worth_at worths (entry_spot e)

abbrev pub row_with : Entry → Worth → Row
row_with e worth = record { entry = e; worth = worth }

-- the row that is stored of the movement, if there is one
abbrev pub stored_row : List SpotWorth → Entry → Option Row
stored_row worths e = option_map (row_with e) (stored_worth worths e)

abbrev pub stored_rows : List SpotWorth → List Entry → List Row
stored_rows worths es = filter_map (stored_row worths) es

-- what the movement is due: its value and its share over the rows that are stored of the movements before it
abbrev pub due : List Record → List SpotWorth → List Entry → Entry → Worth
due journal worths past e = (valued journal (stored_rows worths past) e).worth

-- just that is stored
abbrev pub IsRight : List Record → List SpotWorth → List Entry → Entry → Type 0
IsRight journal worths past e = stored_worth worths e ≡ Some (due journal worths past e)

-- so it is of each of these movements, which come after others
abbrev pub AreRightAfter : List Record → List SpotWorth → List Entry → List Entry → Type 0
AreRightAfter journal worths past [] = Unit {0}
AreRightAfter journal worths past (e ∷ es) = IsRight journal worths past e × AreRightAfter journal worths (past ++ e ∷ []) es

abbrev pub AreRight : List Record → List SpotWorth → List Entry → Type 0
AreRight journal worths es = AreRightAfter journal worths [] es

-- the movement's worth is stored at this spot
abbrev pub stands_at : Spot → Entry → Bool
stands_at spot e = is_same_spot (entry_spot e) spot

-- the spot is that of one of the movements, and none of the worths before stands at it
abbrev pub is_free : List Entry → List SpotWorth → Spot → Bool
is_free line before spot = list_any (stands_at spot) line && not (list_any (is_at spot) before)

-- so it is of each of these worths, which come after others
abbrev pub AreOwnAfter : List Entry → List SpotWorth → List SpotWorth → Type 0
AreOwnAfter line before [] = Unit {0}
AreOwnAfter line before (w ∷ ws) = (is_free line before w.spot ≡ true) × AreOwnAfter line (before ++ w ∷ []) ws

-- each stands at the spot of a movement of its own
abbrev pub AreOwn : List Entry → List SpotWorth → Type 0
AreOwn line worths = AreOwnAfter line [] worths
