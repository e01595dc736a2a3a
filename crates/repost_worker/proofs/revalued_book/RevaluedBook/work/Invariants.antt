-- The steps are counted in the ledger that the blank one becomes.
use Rattle.repost_worker.proofs.revalued_book.RevaluedBook.work.Given as goal

abbrev pub ghosts-counted : goal.ghosts-counted
ghosts-counted g a = record { name = a.blank.name; parts = a.blank.parts }
