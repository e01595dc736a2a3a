-- The index is of the line.
use Rattle.repost_spread.proofs.movements.take.Given as goal

abbrev pub ghost-remove : goal.ghost-remove
ghost-remove g a = g.line
