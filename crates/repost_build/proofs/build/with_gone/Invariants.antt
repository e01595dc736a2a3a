-- The spots so far, and of those still to come, are all.
use Rattle.std.specs.Prelude.{◌≡◌, ◌++◌, map, drop, filter}
use Rattle.repost_fetch.specs.Changes.{spot_of_entry}
use Rattle.repost_laws.specs.Touched.{is_old}
use Rattle.repost_build.proofs.build.with_gone.Given as goal

abbrev pub invariant-loop-entry : goal.invariant-loop-entry
invariant-loop-entry l =
    l.all.items ++ map spot_of_entry (filter (is_old l.base.0) (drop l.entry-index l.gone))
    ≡ l.spots ++ map spot_of_entry (filter (is_old l.base.0) l.gone)
