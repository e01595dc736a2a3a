-- The index is of the line.
use Rattle.repost_spread.proofs.movements.Movements.mark_linked.Given as goal

abbrev pub ghost-mark_entering : goal.ghost-mark_entering
ghost-mark_entering g a = g.line
