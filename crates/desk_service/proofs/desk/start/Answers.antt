-- No peer came.
use Rattle.std.proofs.Common.{sym, subst}
use Rattle.desk_service.specs.Desks.{IsFirst}
use Rattle.desk_service.proofs.Beginning.{IsBegun-none}
use Rattle.desk_service.proofs.desk.start.Goals as goal

pub returns-in-None-clause-begun : goal.returns-in-None-clause-begun
returns-in-None-clause-begun g c =
    let desk = c.args.desk in
    IsBegun-none g.L.Peer.Source.left g.L.Peer.Source.taken g.L.Peer.Sink.written g.L.Peer.Source.faults g.L.Peer.Link.ended c.args.number.0
    desk.pass desk.reader desk.way (sym c.requires.number) (sym c.requires.way_number) c.requires.way
    (subst (λ first. IsFirst c.args.number.0 first desk.way.view.made) c.in-None.is c.requires.found)
