-- The history is that of the book.
use Rattle.parts_bench.proofs.revaluation.report.Given as goal

abbrev pub ghost-revalue : goal.ghost-revalue
ghost-revalue g a = a.book.now.history
