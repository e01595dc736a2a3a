-- The index is of the line.
use Rattle.repost_spread.proofs.movements.Movements.mark_entering.Given as goal

abbrev pub ghost-place_of : goal.ghost-place_of
ghost-place_of g a = g.line
