use Rattle.mirrored_worker.proofs.MirroredRuns.{leads-shown, before-published}
use Rattle.mirrored_worker.proofs.mirrored_run_laws.a_mirrored_run_is_one_of_turns.Goals as goal

pub returns-clause-turns : goal.returns-clause-turns
returns-clause-turns c old new build build' shown shown' results run =
    let leads = leads-shown results old build shown new build' shown' run in
    (leads.results, leads.turns)

pub returns-clause-before : goal.returns-clause-before
returns-clause-before c old new build build' shown shown' results run none = before-published results old build shown new build' shown' run none
