-- The map has the worths of the rows so far.
use Rattle.std.proofs.Common.{◌≡◌, ℕ, map, take, drop}
use Rattle.kept_tables.specs.Differences.{entry_worth}
use Rattle.kept_tables.specs.TablesOf.{worths_of}
use Rattle.kept_tables.proofs.differing.worths_by_spot.Given as goal

abbrev pub invariant-loop-row : goal.invariant-loop-row
invariant-loop-row l =
    (seen : ℕ) × (l.row-iterator ≡ drop seen l.rows) × (map entry_worth l.by_spot.entries ≡ worths_of (take seen l.rows))
