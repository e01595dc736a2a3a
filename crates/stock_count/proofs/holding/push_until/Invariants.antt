-- Those so far with those of the rest are all.
use Rattle.std.proofs.Common.{◌≡◌, ◌++◌, drop, filter}
use Rattle.stock_model.specs.Entries.{is_live_entry}
use Rattle.stock_count.specs.Held.{is_until}
use Rattle.stock_count.proofs.holding.push_until.Given as goal

abbrev pub invariant-loop-entry : goal.invariant-loop-entry
invariant-loop-entry l =
    l.found ++ filter (is_until l.at) (filter (is_live_entry l.journal) (drop l.entry-index l.entries))
    ≡ l.initial.found ++ filter (is_until l.at) (filter (is_live_entry l.journal) l.entries)
