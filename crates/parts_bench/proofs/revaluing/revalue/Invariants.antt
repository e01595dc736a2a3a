-- The build is of the first of the records, which stay while it is valued.
use Rattle.std.specs.Prelude.{take}
use Rattle.repost_build.specs.Readings.{target_of}
use Rattle.stock_model.specs.History.{records}
use Rattle.parts_bench.proofs.revaluing.revalue.Given as goal

abbrev pub ghost-turn_all : goal.ghost-turn_all
ghost-turn_all g a = g.history

abbrev pub ghost-changed : goal.ghost-changed
ghost-changed g a = take (target_of a.self.now) (records g.history)
