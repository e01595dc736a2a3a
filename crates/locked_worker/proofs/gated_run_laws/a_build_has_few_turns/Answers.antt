use Rattle.locked_worker.proofs.FewTurns.{few-turns, few-published}
use Rattle.locked_worker.proofs.gated_run_laws.a_build_has_few_turns.Goals as goal

pub returns-clause-few : goal.returns-clause-few
returns-clause-few c = few-turns

pub returns-clause-published : goal.returns-clause-published
returns-clause-published c = few-published
