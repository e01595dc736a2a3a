use Rattle.desk_connections.proofs.Visiting.{each_visit, later_begins}
use Rattle.desk_connections.specs.Visits.{IsVisit}
use Rattle.desk_connections.proofs.visit_laws.peers_are_served_in_turn.Goals as goal

pub returns-clause-each : goal.returns-clause-each
returns-clause-each g c desk =
    each_visit (IsVisit g.P.Source.left g.P.Source.taken g.P.Sink.written g.P.Source.faults g.P.Link.ended desk)

pub returns-clause-in_turn : goal.returns-clause-in_turn
returns-clause-in_turn g c desk =
    later_begins (IsVisit g.P.Source.left g.P.Source.taken g.P.Sink.written g.P.Source.faults g.P.Link.ended desk)
    (λ visit is. (is.serves.served.session.session.session.grows, is.serves.served.session.session.grows))
