-- Each worth so far stands at the spot of a movement of its own, and the other spots are free.
use Rattle.std.proofs.Common.{◌≡◌, take}
use Rattle.stock_nums.specs.declared.place.Spot.{Spot}
use Rattle.generation_audit.specs.RightRows.{is_free, AreOwn}
use Rattle.generation_audit.specs.StoredAt.{mark_at}
use Rattle.generation_audit.proofs.comparing.first_extra.Given as goal

abbrev pub invariant-loop-worth : goal.invariant-loop-worth
invariant-loop-worth l = record {
  free : (spot : Spot) → mark_at l.free spot ≡ is_free l.line (take l.worth-index l.worths) spot;
  own : AreOwn l.line (take l.worth-index l.worths);
}
