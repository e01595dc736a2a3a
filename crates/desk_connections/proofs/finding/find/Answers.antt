-- A peer came to the desk.
use Rattle.std.proofs.Common.{◌∷◌, [], ◌++◌, ap, ◌∙◌, sym, subst}
use Rattle.shared_listener.specs.declared.step.Step.TheVariants.{Came}
use Rattle.desk_connections.specs.Ways.{Asks}
use Rattle.desk_connections.proofs.finding.find.Goals as goal

pub returns-in-Peer-clause-found : goal.returns-in-Peer-clause-found
returns-in-Peer-clause-found g c =
    let asked = c.ask-asked in
    let told = subst (λ next. Asks c.args.number.0 c.loop.way.view.made next asked.result.way.view.made) c.in-Peer.is asked.ensures.told in
    (told.0, told.1 ∙ ap (λ made. made ++ (c.args.number.0, Came told.0) ∷ []) c.loop.invariant.nothing, told.2 ∙ sym c.in-Peer.peer-is)
