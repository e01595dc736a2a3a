-- The build is of the first of the records.
use Rattle.std.specs.Prelude.{take}
use Rattle.repost_build.specs.Readings.{target_of}
use Rattle.repost_worker.proofs.turn.publish_all.Given as goal

abbrev pub ghost-of : goal.ghost-of
ghost-of g a = take (target_of a.build.now) g.all

abbrev pub ghost-published : goal.ghost-published
ghost-published g a = take (target_of a.self.now) g.all
