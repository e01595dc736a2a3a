-- The turn is made with the records of the book.
use Rattle.stock_model.specs.History.{records}
use Rattle.repost_worker.proofs.turn.turn_on.Given as goal

abbrev pub ghost-turn_of : goal.ghost-turn_of
ghost-turn_of g a = records a.book.now.history
