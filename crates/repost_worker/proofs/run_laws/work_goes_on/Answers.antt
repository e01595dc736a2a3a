use Rattle.repost_worker.proofs.Works.{work-start, work-kept}
use Rattle.repost_worker.proofs.run_laws.work_goes_on.Goals as goal

pub returns-clause-start : goal.returns-clause-start
returns-clause-start c = work-start

pub returns-clause-kept : goal.returns-clause-kept
returns-clause-kept c = work-kept
