-- The ledger is the one that the blank one becomes.
use Rattle.list_tests.proofs.steps.cost_nothing.Given as goal

abbrev pub ghosts-ticks : goal.ghosts-ticks
ghosts-ticks g a = record { name = a.blank.name; parts = a.blank.parts }
