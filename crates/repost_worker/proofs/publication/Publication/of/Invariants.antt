-- The rows are those of the build's own records.
use Rattle.repost_worker.proofs.publication.Publication.of.Given as goal

abbrev pub ghost-changed : goal.ghost-changed
ghost-changed g a = g.journal

abbrev pub ghost-rows : goal.ghost-rows
ghost-rows g a = g.journal
