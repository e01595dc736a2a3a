-- The movements of the records so far, and of those still to come, are those of all that go.
use Rattle.std.specs.Prelude.{◌≡◌, [], ◌++◌, take, drop, filter}
use Rattle.stock_model.specs.Entries.{entries_after}
use Rattle.repost_fetch.specs.Fetched.{is_taken}
use Rattle.repost_laws.specs.Touched.{is_gone}
use Rattle.repost_fetch.proofs.fetch.entries_going.Given as goal

abbrev pub invariant-loop-index : goal.invariant-loop-index
invariant-loop-index l =
    l.entries
    ++ filter (is_gone (is_taken (take l.after.0 l.journal) (drop l.after.0 l.journal)))
    (entries_after (take l.index (take l.after.0 l.journal)) (drop l.index (take l.after.0 l.journal)))
    ≡ filter (is_gone (is_taken (take l.after.0 l.journal) (drop l.after.0 l.journal))) (entries_after [] (take l.after.0 l.journal))
