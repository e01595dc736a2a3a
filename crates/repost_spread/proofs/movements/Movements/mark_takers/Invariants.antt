-- The index is of the line.
use Rattle.repost_spread.proofs.movements.Movements.mark_takers.Given as goal

abbrev pub ghost-entered_before : goal.ghost-entered_before
ghost-entered_before g a = g.line

abbrev pub ghost-mark_leaving : goal.ghost-mark_leaving
ghost-mark_leaving g a = g.line
