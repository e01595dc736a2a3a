-- What is found is of the movements that are kept.
use Rattle.repost_spread.specs.Movements.{line_of}
use Rattle.repost_spread.proofs.movements.Movements.taken_over.Given as goal

abbrev pub ghost-held_before : goal.ghost-held_before
ghost-held_before a = line_of a.self.now

abbrev pub ghost-linked : goal.ghost-linked
ghost-linked a = line_of a.self.now
