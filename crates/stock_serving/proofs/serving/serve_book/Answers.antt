-- The listener listens, or it failed.
use Rattle.std.proofs.Common.{inl, inr, refl, ◌∙◌}
use Rattle.stock_io.specs.Listeners.{IsFresh}
use Rattle.stock_io.specs.Heard.{heard}
use Rattle.desk_service.specs.Service.{AreServedBy}
use Rattle.stock_serving.proofs.Services.{heard-same, leaves-heard}
use Rattle.stock_serving.proofs.serving.serve_book.Goals as goal

pub returns-in-Ok-clause-serves : goal.returns-in-Ok-clause-serves
returns-in-Ok-clause-serves g c =
    let hears = heard g.L.Listener.waiting g.L.Listener.hung_up g.L.Listener.accepts g.L.Listener.hang_ups g.L.Listener.faults in
    let old = hears c.args.listener in
    let mid = hears c.listen.new.self in
    leaves-heard (AreServedBy g.P.Source.left g.P.Source.taken g.P.Sink.written g.P.Source.faults g.P.Link.ended)
    (IsFresh g.P.Source.taken g.P.Sink.written g.P.Source.faults g.P.Link.ended) c.args.desks c.args.connections
    c.serve_peers.result.summary c.args.book c.serve_peers.result.book old mid (hears c.serve_peers.result.listener)
    (heard-same old mid c.listen.ensures.waiting_kept c.listen.ensures.hung_up_kept c.listen.ensures.accepts_kept
    c.listen.ensures.hang_ups_kept c.in-Ok.ensures.faults_kept) c.serve_peers.ensures.serves

pub returns-in-Err-clause-serves : goal.returns-in-Err-clause-serves
returns-in-Err-clause-serves g c =
    let hears = heard g.L.Listener.waiting g.L.Listener.hung_up g.L.Listener.accepts g.L.Listener.hang_ups g.L.Listener.faults in
    let old = hears c.args.listener in
    let new = hears c.listen.new.self in
    inl (record {
      nobody =
          heard-same (record old { faults = new.faults }) new c.listen.ensures.waiting_kept c.listen.ensures.hung_up_kept
          c.listen.ensures.accepts_kept c.listen.ensures.hang_ups_kept refl;
      nothing_kept = refl;
      cause = c.in-Err.ensures.cause;
    })

pub returns-in-Ok-clause-listens : goal.returns-in-Ok-clause-listens
returns-in-Ok-clause-listens g c = inl (c.serve_peers.ensures.port_kept ∙ c.in-Ok.ensures.listens)

pub returns-in-Err-clause-listens : goal.returns-in-Err-clause-listens
returns-in-Err-clause-listens g c = inr (c.in-Err.ensures.port_kept, c.listen.ensures.accepts_kept)
