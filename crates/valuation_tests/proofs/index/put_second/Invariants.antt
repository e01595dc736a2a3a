-- The line is what it was.
use Rattle.valuation_tests.proofs.index.put_second.Given as goal

abbrev pub ghost-insert : goal.ghost-insert
ghost-insert g a = g.line
