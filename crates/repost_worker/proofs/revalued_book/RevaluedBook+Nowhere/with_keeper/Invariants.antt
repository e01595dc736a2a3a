-- What was tried is what the caller says.
use Rattle.repost_worker.proofs.revalued_book.RevaluedBook+Nowhere.with_keeper.Given as goal

abbrev pub ghost-with_keeper : goal.ghost-with_keeper
ghost-with_keeper g a = g.tried
