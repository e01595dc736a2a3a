-- All records come into the build.
use Rattle.stock_model.specs.History.{records}
use Rattle.locked_worker.proofs.after_stop.take_in.Given as goal

abbrev pub ghost-extend : goal.ghost-extend
ghost-extend g a = records g.history
