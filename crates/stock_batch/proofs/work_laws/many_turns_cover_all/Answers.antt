use Rattle.stock_batch.proofs.WorkLines.{covers-line}
use Rattle.stock_batch.proofs.work_laws.many_turns_cover_all.Goals as goal

pub returns : goal.returns
returns c old new line answer turns step asks told many = covers-line old line answer new step turns asks told many
