-- The movements are marked that leave with a unit below the one that the walk came to.
use Rattle.std.proofs.Common.{◌≤◌, ◌-◌}
use Rattle.repost_spread.specs.Marks.{AreMarked}
use Rattle.repost_spread.proofs.SpreadingUnits.{IsReached}
use Rattle.repost_spread.proofs.movements.Movements.mark_leaving.Given as goal

abbrev pub ghost-unit_out : goal.ghost-unit_out
ghost-unit_out g a = g.line

abbrev pub invariant-loop-unit : goal.invariant-loop-unit
invariant-loop-unit g l = record {
  begun : l.fn.from.0 ≤ l.unit;
  marked : AreMarked l.fn.self l.self (IsReached g.line l.fn.key l.fn.from.0 l.fn.until.0 l.unit);
}

abbrev pub decreases-loop-unit : goal.decreases-loop-unit
decreases-loop-unit g l = l.fn.until.0 - l.unit
