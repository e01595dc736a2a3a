-- The build is of the first of the records, and works on.
use Rattle.std.specs.Prelude.{take}
use Rattle.repost_build.specs.Readings.{target_of}
use Rattle.repost_worker.specs.Turns.{IsWorkOf}
use Rattle.stock_model.specs.History.{records}
use Rattle.parts_bench.proofs.revaluing.turn_all.Given as goal

abbrev pub ghost-turn : goal.ghost-turn
ghost-turn g a = take (target_of a.self.now) (records g.history)

abbrev pub invariant-loop-turns : goal.invariant-loop-turns
invariant-loop-turns g l = IsWorkOf g.history l.build
