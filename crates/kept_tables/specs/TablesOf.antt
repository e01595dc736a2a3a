-- The tables that keep a history: its records as texts, how many are covered, and what each of their movements is worth.
use Rattle.std.specs.Prelude.{ℕ, ◌+◌, pos, List, [], ◌∷◌, map, fold}
use Rattle.stock_nums.specs.declared.entry.Row.{Row}
use Rattle.stock_nums.specs.declared.place.Place.{Place}
use Rattle.stock_nums.specs.declared.place.Spot.{Spot}
use Rattle.stock_model.specs.History.{records, covered, covered_records}
use Rattle.stock_model.specs.Replay.{replay}
use Rattle.stock_model.specs.declared.deeds.Deed.{Deed}
use Rattle.stock_model.specs.declared.records.Record.{Record}
use Rattle.stock_keeper.specs.Changed.{current_version, stored}
use Rattle.stock_keeper.specs.Worths.{put}
use Rattle.stock_keeper.specs.declared.changes.Changes.{Changes}
use Rattle.stock_keeper.specs.declared.changes.SpotWorth.{SpotWorth}
use Rattle.stock_keeper.specs.declared.tables.StoredRecord.{StoredRecord}
use Rattle.stock_keeper.specs.declared.tables.Tables.{Tables}
use Rattle.voucher_json.specs.RecordTexts.{record_text}

-- the records as they are kept, from this number on
abbrev pub stored_from : ℕ → List Record → List StoredRecord
stored_from n [] = []
stored_from n (item ∷ items) = stored (record { 0 = n }) (record_text item) ∷ stored_from (n + 1) items

-- the place without its moment
abbrev pub spot_of : Place → Spot
spot_of place = record { voucher = place.voucher; line = place.line; side = place.side }

-- what a movement is worth, by its spot
abbrev pub spot_worth : Row → SpotWorth
spot_worth row = record { spot = spot_of row.entry.place; worth = row.worth }

-- what the movements are worth, by record, line and side
abbrev pub worths_of : List Row → List SpotWorth
worths_of rows = fold put [] (map spot_worth rows)

-- what a publication of these rows changes, where those at these spots go
abbrev pub changes_of : List Row → List Spot → Changes
changes_of rows spots = record { rows = map spot_worth rows; gone = spots }

-- the tables of a history
abbrev pub tables_of : List Deed → Tables
tables_of history = record {
  version = current_version;
  records = stored_from 1 (records history);
  covered = pos (covered history);
  worths = worths_of (replay (covered_records history));
}
