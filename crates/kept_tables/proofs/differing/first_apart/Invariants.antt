-- What is told of the worths from the index on is told of all.
use Rattle.std.proofs.Common.{◌-◌, ◌≤◌, length, drop, Option}
use Rattle.kept_tables.specs.Differences.{IsTold}
use Rattle.kept_tables.specs.declared.differing.Difference.{Difference}
use Rattle.kept_tables.proofs.differing.first_apart.Given as goal

abbrev pub invariant-loop-index : goal.invariant-loop-index
invariant-loop-index l = record {
  within : l.index ≤ length l.stored;
  made_within : l.index ≤ length l.replayed;
  told : (told : Option Difference) → IsTold (drop l.index l.stored) (drop l.index l.replayed) told
      → IsTold l.stored l.replayed told;
}

abbrev pub decreases-loop-index : goal.decreases-loop-index
decreases-loop-index l = length l.stored - l.index
