-- The index is of the line.
use Rattle.repost_spread.proofs.movements.Movements.mark_next.Given as goal

abbrev pub ghost-next : goal.ghost-next
ghost-next g a = g.line
