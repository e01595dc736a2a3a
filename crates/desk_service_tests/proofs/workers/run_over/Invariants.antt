-- The steps are counted in the ledger that the blank one becomes.
use Rattle.desk_service_tests.proofs.workers.run_over.Given as goal

abbrev pub ghosts-run_counted : goal.ghosts-run_counted
ghosts-run_counted g a = record { name = a.blank.name; parts = a.blank.parts }
