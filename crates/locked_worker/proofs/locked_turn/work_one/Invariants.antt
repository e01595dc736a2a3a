-- The turn is made with the records that the pass has seen.
use Rattle.stock_model.specs.History.{records}
use Rattle.session_laws.specs.Makers.{without_makers}
use Rattle.locked_worker.proofs.locked_turn.work_one.Given as goal

abbrev pub ghost-work_of : goal.ghost-work_of
ghost-work_of g a = records (without_makers a.pass.view.seen)
