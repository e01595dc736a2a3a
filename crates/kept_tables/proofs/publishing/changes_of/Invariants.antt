-- The worths of the rows so far.
use Rattle.std.proofs.Common.{◌≡◌, map, take}
use Rattle.kept_tables.specs.TablesOf.{spot_worth}
use Rattle.kept_tables.proofs.publishing.changes_of.Given as goal

abbrev pub invariant-loop-row : goal.invariant-loop-row
invariant-loop-row l = l.worths ≡ map spot_worth (take l.row-index l.rows)
