-- The index is of these movements.
use Rattle.repost_spread.specs.Movements.{line_of}
use Rattle.repost_spread.proofs.movements.Movements.touch_after.Given as goal

abbrev pub ghost-mark_started : goal.ghost-mark_started
ghost-mark_started a = line_of a.self.now

abbrev pub ghost-mark_left : goal.ghost-mark_left
ghost-mark_left a = line_of a.self.now
