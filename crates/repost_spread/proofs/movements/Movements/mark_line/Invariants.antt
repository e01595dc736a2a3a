-- The index is of these movements.
use Rattle.repost_spread.specs.Movements.{line_of}
use Rattle.repost_spread.proofs.movements.Movements.mark_line.Given as goal

abbrev pub ghost-mark_side : goal.ghost-mark_side
ghost-mark_side a = line_of a.self.now
