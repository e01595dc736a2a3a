use Rattle.repost_worker.proofs.Paces.{in_pace-work, in_pace-run}
use Rattle.repost_worker.proofs.run_laws.a_run_keeps_pace.Goals as goal

pub returns-clause-in_pace : goal.returns-clause-in_pace
returns-clause-in_pace c = in_pace-work

pub returns-clause-works : goal.returns-clause-works
returns-clause-works c = in_pace-run
