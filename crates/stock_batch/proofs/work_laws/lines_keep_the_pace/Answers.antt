use Rattle.repost_worker.proofs.Paces.{in_pace-rest}
use Rattle.stock_batch.proofs.WorkLines.{pace-lines}
use Rattle.stock_batch.proofs.work_laws.lines_keep_the_pace.Goals as goal

pub returns-clause-at_first : goal.returns-clause-at_first
returns-clause-at_first c = in_pace-rest

pub returns-clause-stays : goal.returns-clause-stays
returns-clause-stays c = pace-lines
