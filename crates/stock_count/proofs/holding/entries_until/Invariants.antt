-- Those so far with those of the rest of the records are all.
use Rattle.std.proofs.Common.{◌≡◌, ◌++◌, take, drop, filter, []}
use Rattle.stock_model.specs.Entries.{is_live_entry, entries_after}
use Rattle.stock_count.specs.Held.{is_until}
use Rattle.stock_count.proofs.holding.entries_until.Given as goal

abbrev pub invariant-loop-index : goal.invariant-loop-index
invariant-loop-index l =
    l.found ++ filter (is_until l.at) (filter (is_live_entry l.journal) (entries_after (take l.index l.journal) (drop l.index l.journal)))
    ≡ filter (is_until l.at) (filter (is_live_entry l.journal) (entries_after [] l.journal))
