-- All records come into the build.
use Rattle.repost_worker.proofs.turn.fetch_all.Given as goal

abbrev pub ghost-extend : goal.ghost-extend
ghost-extend g a = g.all
