-- The last line is answered.
use Rattle.stock_batch.proofs.Batches.{Answered-end, RunsShort-ended}
use Rattle.stock_batch.proofs.batch.Batch.end_input.Goals as goal

pub returns-clause-answered : goal.returns-clause-answered
returns-clause-answered g c = Answered-end c.args.self.now c.answer_line.new.self c.answer_line.result c.answer_line.ensures.answers c.answer_line.ensures.legal

pub returns-clause-cut_short : goal.returns-clause-cut_short
returns-clause-cut_short g c = RunsShort-ended c.args.self.now c.answer_line.new.self.book c.answer_line.result c.answer_line.ensures.cut_short
