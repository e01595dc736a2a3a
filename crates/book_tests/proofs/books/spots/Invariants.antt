-- The spots of the movements so far.
use Rattle.std.specs.Prelude.{◌≡◌, map, take}
use Rattle.repost_fetch.specs.Changes.{spot_of_entry}
use Rattle.book_tests.proofs.books.spots.Given as goal

abbrev pub invariant-loop-entry : goal.invariant-loop-entry
invariant-loop-entry l = l.spots ≡ map spot_of_entry (take l.entry-index l.entries)
