use Rattle.mirrored_worker.proofs.Covering.{covered-grows}
use Rattle.mirrored_worker.proofs.mirrored_run_laws.what_was_covered_stays.Goals as goal

pub returns : goal.returns
returns c = covered-grows
