use Rattle.std.proofs.Common.{◌<◌, ◌∙◌, ◌++◌, ◌∷◌, [], refl, sym, ap, subst, length}
use Rattle.stock_io.specs.Heard.{heard}
use Rattle.stock_io.specs.Listeners.{IsFresh, HangsUp}
use Rattle.turn_lock.specs.Histories.{made_by}
use Rattle.shared_listener.specs.Logs.{notes}
use Rattle.shared_listener.specs.Steps.{comes, hangs}
use Rattle.shared_listener.specs.declared.step.Step.TheVariants.{HungUp}
use Rattle.shared_listener.proofs.Keeping.{Shares-hung, comes-other}
use Rattle.shared_listener.proofs.Since.{IsShared-on, holds-since, outstanding-since}
use Rattle.shared_listener.proofs.listener.SharedListener.hang_up.Goals as goal

pub hang_up-requires : goal.hang_up-requires
hang_up-requires g c =
    let telling = heard g.L.Listener.waiting g.L.Listener.hung_up g.L.Listener.accepts g.L.Listener.hang_ups g.L.Listener.faults in
    let is_fresh = IsFresh g.L.Peer.Source.taken g.L.Peer.Sink.written g.L.Peer.Source.faults g.L.Peer.Link.ended in
    outstanding-since telling g.L.Listener.listens_to is_fresh c.self.inside.desks c.self.inside.wanted c.self.inside.failed _
    c.self.inside.listener c.self.invariant.1 c.args.number.0 (subst (λ v. length (hangs (made_by c.args.number.0 v.log)) < length (comes (made_by c.args.number.0 v.log))) (sym c.self.view_is) c.requires)

pub invariant_of-self : goal.invariant_of-self
invariant_of-self g c =
    let telling = heard g.L.Listener.waiting g.L.Listener.hung_up g.L.Listener.accepts g.L.Listener.hang_ups g.L.Listener.faults in
    let is_fresh = IsFresh g.L.Peer.Source.taken g.L.Peer.Sink.written g.L.Peer.Source.faults g.L.Peer.Link.ended in
    let s = c.self.inside in
    let before = c.self.invariant.1 in
    let up = c.hang_up.ensures in
    let holds = holds-since telling g.L.Listener.listens_to is_fresh s.desks s.wanted s.failed _ s.listener before c.args.number.0 (subst (λ v. length (hangs (made_by c.args.number.0 v.log)) < length (comes (made_by c.args.number.0 v.log))) (sym c.self.view_is) c.requires) in (
      c.self.invariant.0 ∙ ap length (sym (comes-other (notes s.log.value) (c.args.number.0, HungUp c.of-what.result) refl) ∙ ap comes (sym c.note.ensures)),
      IsShared-on telling g.L.Listener.listens_to is_fresh s.desks s.wanted s.failed s.failed _ _ (c.args.number.0, HungUp c.of-what.result)
          s.listener c.hang_up.new.self before c.note.ensures up.port_kept
          (Shares-hung is_fresh s.desks s.wanted s.failed before.steps _ (telling s.listener) (telling c.hang_up.new.self) c.args.number.0 c.of-what.result
          before.shares holds (subst (λ p. HangsUp (g.L.Listener.hung_up s.listener) (g.L.Listener.hung_up c.hang_up.new.self) p) (sym c.of-what.ensures) up.last)
          up.counted up.waiting_kept up.accepts_kept up.faults_kept),
    )

pub returns-clause-noted : goal.returns-clause-noted
returns-clause-noted g c =
    (c.of-what.result, c.note.ensures ∙ ap (λ v. v.log ++ (c.args.number.0, HungUp c.of-what.result) ∷ []) c.self.view_is, c.of-what.ensures)
