-- Of the key none comes or goes that comes after the movement and not after the last place, and those that leave are marked.
use Rattle.repost_laws.specs.Touched.{is_changed}
use Rattle.repost_spread.specs.Marks.{AreMarked}
use Rattle.repost_spread.specs.Touches.{has_record}
use Rattle.repost_spread.proofs.TouchingWalk.{IsPassed, IsWalked, behind}
use Rattle.repost_spread.proofs.movements.Movements.mark_left.Given as goal

abbrev pub ghost-next : goal.ghost-next
ghost-next g a = g.line

abbrev pub invariant-loop-place : goal.invariant-loop-place
invariant-loop-place g l = record {
  walked : IsWalked (is_changed l.n.0 (has_record l.gone)) g.line l.entry l.last;
  marked : AreMarked l.fn.self l.self (IsPassed l.entry l.last);
}

abbrev pub decreases-loop-place : goal.decreases-loop-place
decreases-loop-place g l = behind g.line l.last
