-- The index is of the line.
use Rattle.repost_spread.proofs.movements.put.Given as goal

abbrev pub ghost-insert : goal.ghost-insert
ghost-insert g a = g.line
