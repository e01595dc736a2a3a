-- The map has the first of the worths so far at each spot.
use Rattle.std.proofs.Common.{◌≡◌, take}
use Rattle.stock_nums.specs.declared.place.Spot.{Spot}
use Rattle.kept_tables.specs.Differences.{worth_at}
use Rattle.generation_audit.specs.StoredAt.{first_at}
use Rattle.generation_audit.proofs.stored_worths.first_ones.Given as goal

abbrev pub invariant-loop-worth : goal.invariant-loop-worth
invariant-loop-worth l = (spot : Spot) → first_at l.found spot ≡ worth_at (take l.worth-index l.worths) spot
