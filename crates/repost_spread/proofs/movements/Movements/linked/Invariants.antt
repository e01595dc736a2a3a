-- The index is of the line.
use Rattle.repost_spread.proofs.movements.Movements.linked.Given as goal

abbrev pub ghost-leaving_value : goal.ghost-leaving_value
ghost-leaving_value g a = g.line

abbrev pub ghost-units_value : goal.ghost-units_value
ghost-units_value g a = g.line
