-- The steps are counted in the ledger that the blank one becomes.
use Rattle.desk_service_tests.proofs.waiting_gate.a_worker_that_values_leaves_the_book_to_a_desk.Given as goal

abbrev pub ghosts-worked_beside : goal.ghosts-worked_beside
ghosts-worked_beside g a = record { name = a.blank.name; parts = a.blank.parts }
