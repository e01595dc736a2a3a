-- The build is of the first of the records that the pass has seen, and what is left after a stop goes on with what it has seen then.
use Rattle.std.specs.Prelude.{take}
use Rattle.repost_build.specs.Readings.{target_of}
use Rattle.session_laws.specs.Makers.{without_makers}
use Rattle.locked_worker.proofs.locked_turn.work_at_stop.Given as goal

abbrev pub ghost-of : goal.ghost-of
ghost-of g a = take (target_of a.build.now) g.all

abbrev pub ghost-after_stop : goal.ghost-after_stop
ghost-after_stop g a = without_makers a.pass.view.seen
