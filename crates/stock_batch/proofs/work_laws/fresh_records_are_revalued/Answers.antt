use Rattle.stock_batch.proofs.WorkLines.{fresh-since_turns, fresh-since_opening}
use Rattle.stock_batch.proofs.work_laws.fresh_records_are_revalued.Goals as goal

pub returns-clause-since_turns : goal.returns-clause-since_turns
returns-clause-since_turns c = fresh-since_turns

pub returns-clause-since_opening : goal.returns-clause-since_opening
returns-clause-since_opening c = fresh-since_opening
