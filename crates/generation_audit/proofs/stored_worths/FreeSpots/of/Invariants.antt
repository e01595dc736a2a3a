-- The spots of the movements so far are marked.
use Rattle.std.proofs.Common.{◌≡◌, take}
use Rattle.std.specs.List.{list_any}
use Rattle.stock_nums.specs.declared.place.Spot.{Spot}
use Rattle.generation_audit.specs.RightRows.{stands_at}
use Rattle.generation_audit.specs.StoredAt.{mark_at}
use Rattle.generation_audit.proofs.stored_worths.FreeSpots.of.Given as goal

abbrev pub invariant-loop-entry : goal.invariant-loop-entry
invariant-loop-entry l = (spot : Spot) → mark_at l.free spot ≡ list_any (stands_at spot) (take l.entry-index l.line)
