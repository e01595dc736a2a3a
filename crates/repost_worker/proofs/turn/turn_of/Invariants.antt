-- The build is of the first of the records.
use Rattle.std.specs.Prelude.{take}
use Rattle.repost_build.specs.Readings.{target_of}
use Rattle.repost_worker.proofs.turn.turn_of.Given as goal

abbrev pub ghost-turn : goal.ghost-turn
ghost-turn g a = take (target_of a.self.now) g.all

abbrev pub ghost-fetch_all : goal.ghost-fetch_all
ghost-fetch_all g a = g.all

abbrev pub ghost-publish_all : goal.ghost-publish_all
ghost-publish_all g a = g.all
