-- Of a keeper whose tables are all that a crash leaves, nothing was tried.
use Rattle.std.specs.Prelude.{[]}
use Rattle.repost_worker.proofs.revalued_book.RevaluedBook.begin.Given as goal

abbrev pub ghost-with_keeper : goal.ghost-with_keeper
ghost-with_keeper g a = []
