-- There was no movement.
use Rattle.std.proofs.Common.{[]}
use Rattle.valuation_tests.proofs.index.put_first.Given as goal

abbrev pub ghost-insert : goal.ghost-insert
ghost-insert a = []
