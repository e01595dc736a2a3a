-- The movements so far have places of their own.
use Rattle.std.proofs.Common.{◌≡◌, ◌++◌, take}
use Rattle.quantity_check.specs.OwnPlaces.{HaveOwnPlaces}
use Rattle.parts_bench.proofs.posting.have_own_places.Given as goal

abbrev pub invariant-loop-entry : goal.invariant-loop-entry
invariant-loop-entry l = record {
  count : l.passed ≡ l.entry-index;
  apart : HaveOwnPlaces (l.running.entries ++ take l.entry-index l.entries);
}
