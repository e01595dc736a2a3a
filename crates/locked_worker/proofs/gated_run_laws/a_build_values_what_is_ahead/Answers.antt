use Rattle.locked_worker.proofs.FewTurns.{few-valued}
use Rattle.locked_worker.proofs.gated_run_laws.a_build_values_what_is_ahead.Goals as goal

pub returns : goal.returns
returns c = few-valued
