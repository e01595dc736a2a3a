-- The index is of the line.
use Rattle.repost_spread.proofs.movements.Movements.held_before.Given as goal

abbrev pub ghost-previous : goal.ghost-previous
ghost-previous g a = g.line
