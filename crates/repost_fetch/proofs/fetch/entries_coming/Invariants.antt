-- The movements of the records so far, and of those still to come, are those of all further records that are in force.
use Rattle.std.specs.Prelude.{◌≡◌, ◌++◌, take, drop, filter}
use Rattle.stock_model.specs.Entries.{entries_after, is_live_entry}
use Rattle.repost_fetch.proofs.fetch.entries_coming.Given as goal

abbrev pub invariant-loop-index : goal.invariant-loop-index
invariant-loop-index l =
    l.entries ++ filter (is_live_entry l.journal) (entries_after (take l.index l.journal) (drop l.index l.journal))
    ≡ filter (is_live_entry l.journal) (entries_after (take l.fn.after.0 l.journal) (drop l.fn.after.0 l.journal))
