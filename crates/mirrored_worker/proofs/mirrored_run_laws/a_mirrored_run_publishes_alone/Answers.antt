-- By turns without a mirror that lead there too.
use Rattle.locked_worker.proofs.GatedRuns.{publishes-turns}
use Rattle.mirrored_worker.proofs.MirroredRuns.{leads-shown}
use Rattle.mirrored_worker.proofs.mirrored_run_laws.a_mirrored_run_publishes_alone.Goals as goal

pub returns-clause-grows : goal.returns-clause-grows
returns-clause-grows c old new build build' shown shown' steps steps' told told' run =
    let leads = leads-shown run.results old build shown new build' shown' run.turns in
    (publishes-turns leads.results old build new build' leads.turns).grows

pub returns-clause-made : goal.returns-clause-made
returns-clause-made c old new build build' shown shown' steps steps' told told' run =
    let leads = leads-shown run.results old build shown new build' shown' run.turns in
    let made = publishes-turns leads.results old build new build' leads.turns in
    (made.more, made.publications_are, made.made)
