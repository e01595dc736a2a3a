use Rattle.repost_worker.proofs.RunLaws.{records-run, covered-run}
use Rattle.repost_worker.proofs.run_laws.a_run_without_limit_covers_all.Goals as goal

pub returns-clause-same : goal.returns-clause-same
returns-clause-same c = records-run

pub returns-clause-all : goal.returns-clause-all
returns-clause-all c = covered-run
