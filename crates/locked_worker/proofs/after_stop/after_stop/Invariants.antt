-- The build takes in what the history has, and counts anew from its first records.
use Rattle.std.specs.Prelude.{take}
use Rattle.stock_model.specs.History.{records}
use Rattle.repost_build.specs.Readings.{target_of}
use Rattle.locked_worker.proofs.after_stop.after_stop.Given as goal

abbrev pub ghost-take_in : goal.ghost-take_in
ghost-take_in g a = g.history

abbrev pub ghost-published : goal.ghost-published
ghost-published g a = take (target_of a.self.now) (records g.history)
