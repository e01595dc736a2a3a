-- The index is of the line.
use Rattle.repost_spread.proofs.movements.Movements.units_value.Given as goal

abbrev pub ghost-left_before : goal.ghost-left_before
ghost-left_before g a = g.line

abbrev pub ghost-value_between : goal.ghost-value_between
ghost-value_between g a = g.line
