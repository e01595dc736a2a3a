use Rattle.stock_batch.proofs.WorkLines.{few-lines, publishes-line}
use Rattle.stock_batch.proofs.work_laws.few_turns_are_waited_for.Goals as goal

pub returns-clause-few : goal.returns-clause-few
returns-clause-few c = few-lines

pub returns-clause-publishes : goal.returns-clause-publishes
returns-clause-publishes c = publishes-line
