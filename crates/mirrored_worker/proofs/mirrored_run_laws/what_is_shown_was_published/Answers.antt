use Rattle.mirrored_worker.proofs.Looking.{shown-whole}
use Rattle.mirrored_worker.proofs.mirrored_run_laws.what_is_shown_was_published.Goals as goal

pub returns : goal.returns
returns c old new build build' shown shown' n one = shown-whole n old build shown new build' shown' one
