-- The index is of these movements.
use Rattle.repost_spread.specs.Movements.{line_of}
use Rattle.repost_spread.proofs.movements.Movements.spread.Given as goal

abbrev pub ghost-mark_next : goal.ghost-mark_next
ghost-mark_next a = line_of a.self.now

abbrev pub ghost-mark_linked : goal.ghost-mark_linked
ghost-mark_linked a = line_of a.self.now

abbrev pub ghost-mark_takers : goal.ghost-mark_takers
ghost-mark_takers a = line_of a.self.now
