use Rattle.stock_model.specs.History.{covered_records}
use Rattle.desk_connections.proofs.Visiting.{Session-all, all_served, all_read, none_fewer}
use Rattle.desk_connections.specs.Visits.{IsVisit}
use Rattle.desk_connections.proofs.visit_laws.all_sessions_are_served.Goals as goal

pub returns-clause-session : goal.returns-clause-session
returns-clause-session g c desk =
    Session-all (IsVisit g.P.Source.left g.P.Source.taken g.P.Sink.written g.P.Source.faults g.P.Link.ended desk) desk

pub returns-clause-served : goal.returns-clause-served
returns-clause-served g c desk =
    all_served (IsVisit g.P.Source.left g.P.Source.taken g.P.Sink.written g.P.Source.faults g.P.Link.ended desk) desk

pub returns-clause-readings : goal.returns-clause-readings
returns-clause-readings g c desk final =
    all_read (IsVisit g.P.Source.left g.P.Source.taken g.P.Sink.written g.P.Source.faults g.P.Link.ended desk) desk (covered_records final)

pub returns-clause-no_fewer : goal.returns-clause-no_fewer
returns-clause-no_fewer g c desk =
    none_fewer (IsVisit g.P.Source.left g.P.Source.taken g.P.Sink.written g.P.Source.faults g.P.Link.ended desk) desk
