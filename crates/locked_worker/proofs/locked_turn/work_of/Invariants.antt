-- The build is of the first of the records.
use Rattle.std.specs.Prelude.{take}
use Rattle.repost_build.specs.Readings.{target_of}
use Rattle.locked_worker.proofs.locked_turn.work_of.Given as goal

abbrev pub ghost-turn : goal.ghost-turn
ghost-turn g a = take (target_of a.self.now) g.all

abbrev pub ghost-work_at_stop : goal.ghost-work_at_stop
ghost-work_at_stop g a = g.all
