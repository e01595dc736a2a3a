-- What the acceptance of records leaves where the past is closed.
use Rattle.std.specs.Prelude.{◌≡◌, List, Some, filter}
use Rattle.stock_nums.specs.declared.moment.Moment.{Moment}
use Rattle.stock_model.specs.declared.deeds.Deed.{Deed}
use Rattle.stock_model.specs.Freezing.{frozen}
use Rattle.stock_model.specs.History.{records}
use Rattle.stock_model.specs.Replay.{replay}
use Rattle.stock_model.specs.Reports.{is_until}

-- where the accepted records closed the past up to a moment, their replay now has just the rows up to it that it had
abbrev pub HasClosedRows : List Deed → List Deed → Type 0
HasClosedRows old new =
    (until : Moment) → frozen (records old) ≡ Some until
    → filter (is_until (Some until)) (replay (records new)) ≡ filter (is_until (Some until)) (replay (records old))
