-- The log tells no step of a desk, so the listener is the one that the lock was made with.
use Rattle.std.proofs.Common.{ap, ◌∙◌, subst}
use Rattle.stock_io.specs.Heard.{heard}
use Rattle.stock_io.specs.Listeners.{IsFresh}
use Rattle.shared_listener.specs.Sharing.{IsShared}
use Rattle.shared_listener.proofs.Ending.{untouched-opened}
use Rattle.desk_service.proofs.locking.take_back.Goals as goal

pub returns : goal.returns
returns g c listener desks wanted new =
    let telling = heard g.L.Listener.waiting g.L.Listener.hung_up g.L.Listener.accepts g.L.Listener.hang_ups g.L.Listener.faults in
    let is_fresh = IsFresh g.L.Peer.Source.taken g.L.Peer.Sink.written g.L.Peer.Source.faults g.L.Peer.Link.ended in
    let shared = c.close.result in
    let log_is = c.close.ensures.seen ∙ ap (λ v. v.seen) new.view in
    untouched-opened telling g.L.Listener.listens_to is_fresh listener desks wanted shared.desks shared.wanted new.log shared.failed c.into_listener.result
    new.is_opened (subst (λ z. IsShared telling g.L.Listener.listens_to is_fresh shared.desks shared.wanted shared.failed z c.into_listener.result) log_is
    c.into_listener.ensures)
