-- How far a service comes once the listener listens.
use Rattle.std.proofs.Common.{inl, ap, ◌∙◌, arith}
use Rattle.stock_io.specs.Listeners.{IsFresh}
use Rattle.repost_worker.specs.Paces.{pace_of}
use Rattle.stock_io.specs.Heard.{heard}
use Rattle.desk_service.specs.Service.{AreServedBy}
use Rattle.stock_serving.proofs.Services.{leaves-of, service-falls}
use Rattle.stock_serving.proofs.serving.serve_peers.Goals as goal

pub returns-in-Ok-clause-serves : goal.returns-in-Ok-clause-serves
returns-in-Ok-clause-serves g c =
    let hears = heard g.L.Listener.waiting g.L.Listener.hung_up g.L.Listener.accepts g.L.Listener.hang_ups g.L.Listener.faults in
    let served = c.in-Ok.served in
    leaves-of (AreServedBy g.P.Source.left g.P.Source.taken g.P.Sink.written g.P.Source.faults g.P.Link.ended)
    (IsFresh g.P.Source.taken g.P.Sink.written g.P.Source.faults g.P.Link.ended) c.args.desks c.args.connections
    c.settle_served.result.summary served.accepted (pace_of c.into_parts-book.result.0 c.into_parts-book.result.1) c.args.book
    (pace_of served.book served.build) c.settle_served.result.book (hears c.args.listener) (hears served.listener)
    (hears c.settle_served.result.listener) c.into_parts-book.ensures.pace (ap hears c.settle_served.ensures.listener)
    c.in-Ok.ensures.served (record { longer = c.in-Ok.ensures.follows.longer; called = c.in-Ok.ensures.follows.called }) c.settle_served.ensures.few c.settle_served.ensures.all
    c.settle_served.ensures.legal

pub returns-in-Ok-clause-never_falls : goal.returns-in-Ok-clause-never_falls
returns-in-Ok-clause-never_falls g c =
    let hears = heard g.L.Listener.waiting g.L.Listener.hung_up g.L.Listener.accepts g.L.Listener.hang_ups g.L.Listener.faults in
    let served = c.in-Ok.served in
    let falls =
    service-falls (AreServedBy g.P.Source.left g.P.Source.taken g.P.Sink.written g.P.Source.faults g.P.Link.ended)
    (IsFresh g.P.Source.taken g.P.Sink.written g.P.Source.faults g.P.Link.ended) c.args.desks c.args.connections
    served.accepted c.into_parts-book.result.0.history served.book.history c.into_parts-book.result.0.keeper.faults served.book.keeper.faults (hears c.args.listener) (hears served.listener)
    c.in-Ok.ensures.served in
    omega (arith, falls, ap g.L.Listener.faults c.settle_served.ensures.listener)

pub returns-in-Err-clause-serves : goal.returns-in-Err-clause-serves
returns-in-Err-clause-serves g c =
    let same = c.in-Err.ensures.not_served in
    inl (record {
      nothing_heard = ap (heard g.L.Listener.waiting g.L.Listener.hung_up g.L.Listener.accepts g.L.Listener.hang_ups g.L.Listener.faults) same.2;
      nothing_kept = c.from_parts.ensures.pace ∙ (λ i. pace_of (same.0 i) (same.1 i)) ∙ c.into_parts-book.ensures.pace;
    })

pub returns-in-Err-clause-never_falls : goal.returns-in-Err-clause-never_falls
returns-in-Err-clause-never_falls g c = omega (arith, ap g.L.Listener.faults c.in-Err.ensures.not_served.2)

pub returns-in-Ok-clause-port_kept : goal.returns-in-Ok-clause-port_kept
returns-in-Ok-clause-port_kept g c = ap g.L.Listener.listens_to c.settle_served.ensures.listener ∙ c.in-Ok.ensures.port_kept

pub returns-in-Err-clause-port_kept : goal.returns-in-Err-clause-port_kept
returns-in-Err-clause-port_kept g c = ap g.L.Listener.listens_to c.in-Err.ensures.not_served.2
