use Rattle.std.proofs.Common.{refl, sym, ap, length}
use Rattle.stock_io.specs.Heard.{heard}
use Rattle.stock_io.specs.Listeners.{IsFresh}
use Rattle.shared_listener.specs.Steps.{comes}
use Rattle.shared_listener.proofs.Since.{IsShared-opened, first_noted}
use Rattle.shared_listener.proofs.listener.SharedListener.new.Goals as goal

pub invariant_of-result : goal.invariant_of-result
invariant_of-result g c =
    let telling = heard g.L.Listener.waiting g.L.Listener.hung_up g.L.Listener.accepts g.L.Listener.hang_ups g.L.Listener.faults in
    let is_fresh = IsFresh g.L.Peer.Source.taken g.L.Peer.Sink.written g.L.Peer.Source.faults g.L.Peer.Link.ended in
    let log = first_noted _ _ _ c.note.ensures c.none-log.ensures in (
      ap (λ z. length (comes z)) (sym log),
      IsShared-opened telling g.L.Listener.listens_to is_fresh c.args.desks c.args.wanted
          (record { listener = c.of.result; desks = c.args.desks; wanted = c.args.wanted })
          _ c.args.listener log refl refl c.of.ensures (g.met.L.Listener.no_more_hung_up c.args.listener),
    )

pub returns-clause-opened : goal.returns-clause-opened
returns-clause-opened g c = (
  record { listener = c.of.result; desks = c.args.desks; wanted = c.args.wanted },
  first_noted _ _ _ c.note.ensures c.none-log.ensures,
  c.of.ensures,
  refl,
  refl,
)
