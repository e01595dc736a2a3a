-- What is made ahead is of the build's own records.
use Rattle.locked_worker.proofs.ahead.Ahead.of.Given as goal

abbrev pub ghost-of : goal.ghost-of
ghost-of g a = g.journal
