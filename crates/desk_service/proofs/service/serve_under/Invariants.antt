-- The worker's steps are counted in the ledger that the blank one becomes.
use Rattle.desk_service.proofs.service.serve_under.Given as goal

abbrev pub ghosts-in_threads : goal.ghosts-in_threads
ghosts-in_threads g a = record { name = a.blank.name; parts = a.blank.parts }
