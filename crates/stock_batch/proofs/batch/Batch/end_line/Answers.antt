-- The line under way is a whole line now, and answered.
use Rattle.stock_batch.proofs.Batches.{StandsFor-ended}
use Rattle.stock_batch.proofs.batch.Batch.end_line.Goals as goal

pub returns-clause-goes_on : goal.returns-clause-goes_on
returns-clause-goes_on g c first taken written stands =
    StandsFor-ended first c.args.self.now c.answer_line.new.self c.clear.new.self taken written c.in_ok-answer_line.ensures.answers c.in_ok-answer_line.ensures.legal c.clear.ensures stands
