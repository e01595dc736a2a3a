use Rattle.std.proofs.Common.{◌≡◌, ◌<◌, ◌∙◌, ◌++◌, ◌∷◌, ◌⊎◌, ◌+◌, inl, inr, [], true, refl, sym, ap, subst, length, arith}
use Rattle.stock_io.specs.Heard.{heard}
use Rattle.stock_io.specs.Listeners.{IsFresh, HandsOut}
use Rattle.shared_listener.specs.Logs.{notes}
use Rattle.shared_listener.specs.Steps.{comes}
use Rattle.shared_listener.specs.declared.step.Step.TheVariants.{Came, Ended}
use Rattle.shared_listener.proofs.Keeping.{Shares-came, Shares-ended, comes-other, length-comes}
use Rattle.shared_listener.proofs.Since.{IsShared-on, comes-since}
use Rattle.shared_listener.proofs.listener.SharedListener.next.Goals as goal
use Rattle.shared_listener.proofs.listener.SharedListener.next.Goals.{then-self-via-then-self, then-self-via-else-self+then-self-2, else-self-3-via-then-self-3+else-number-self, else-self-3-via-else-self-3}

pub invariant_of-self : goal.invariant_of-self
invariant_of-self g c =
    let telling = heard g.L.Listener.waiting g.L.Listener.hung_up g.L.Listener.accepts g.L.Listener.hang_ups g.L.Listener.faults in
    let is_fresh = IsFresh g.L.Peer.Source.taken g.L.Peer.Sink.written g.L.Peer.Source.faults g.L.Peer.Link.ended in
    let s = c.self.inside in
    let before = c.self.invariant.1 in
    let since = comes-since telling g.L.Listener.listens_to is_fresh s.desks s.wanted s.failed (notes s.log.value) s.listener before in
    let count : s.came ≡ length (comes before.steps) = c.self.invariant.0 ∙ ap length since in
    let over : (s.failed ≡ true) ⊎ (length (comes before.steps) ≡ s.wanted) =
    elim c.then-self.branch [ then-self-via-then-self w ↦ inl w.if-self.true | then-self-via-else-self+then-self-2 w ↦ inr (sym count ∙ w.if-self-2.true) ] in (
      c.self.invariant.0 ∙ ap length (sym (comes-other (notes s.log.value) (c.args.number.0, Ended) refl) ∙ ap comes (sym c.note.ensures)),
      IsShared-on telling g.L.Listener.listens_to is_fresh s.desks s.wanted s.failed s.failed _ _ (c.args.number.0, Ended)
          s.listener s.listener before c.note.ensures refl
          (Shares-ended is_fresh s.desks s.wanted s.failed s.failed before.steps _ (telling s.listener) (telling s.listener) c.args.number.0
          before.shares refl refl refl refl (omega arith) (λ none. (none, refl)) (λ now. inl (now, refl)) over),
    )

pub returns-then-self-clause-why_over : goal.returns-then-self-clause-why_over
returns-then-self-clause-why_over g c =
    let s = c.self.inside in
    let count : s.came ≡ length (comes (notes c.note.new.log.value)) =
    c.self.invariant.0 ∙ ap length (sym (comes-other (notes s.log.value) (c.args.number.0, Ended) refl) ∙ ap comes (sym c.note.ensures)) in
    elim c.then-self.branch [ then-self-via-then-self w ↦ inl w.if-self.true | then-self-via-else-self+then-self-2 w ↦ inr (sym count ∙ w.if-self-2.true) ]

pub invariant_of-self-in-Ok : goal.invariant_of-self-in-Ok
invariant_of-self-in-Ok g c =
    let telling = heard g.L.Listener.waiting g.L.Listener.hung_up g.L.Listener.accepts g.L.Listener.hang_ups g.L.Listener.faults in
    let is_fresh = IsFresh g.L.Peer.Source.taken g.L.Peer.Sink.written g.L.Peer.Source.faults g.L.Peer.Link.ended in
    let s = c.self.inside in
    let before = c.self.invariant.1 in
    let accept = c.in-Ok.ensures in
    let number = c.args.number.0 in
    let since = comes-since telling g.L.Listener.listens_to is_fresh s.desks s.wanted s.failed (notes s.log.value) s.listener before in
    let count : s.came ≡ length (comes before.steps) = c.self.invariant.0 ∙ ap length since in
    let more : length (comes (notes c.note-in-Ok.new.log.value)) ≡ length (comes (notes s.log.value)) + 1 =
    ap (λ z. length (comes z)) c.note-in-Ok.ensures ∙ length-comes (notes s.log.value) ((number, Came c.of.result) ∷ []) in
    let room : length (comes before.steps) < s.wanted = omega (arith, count, before.shares.no_more, c.if-self-2.false) in
    let first : length (comes before.steps) < s.desks → number ≡ length (comes before.steps) + 1 =
    elim c.else-self-3.branch [
      | else-self-3-via-then-self-3+else-number-self w ↦ (λ few. omega (arith, count, w.if-number-self.false))
      | else-self-3-via-else-self-3 w ↦ (λ few. absurd (omega (arith, few, count, w.if-self-3.false)))
    ] in (
      ap (λ n. n + 1) c.self.invariant.0 ∙ sym more,
      IsShared-on telling g.L.Listener.listens_to is_fresh s.desks s.wanted s.failed s.failed _ _ (number, Came c.of.result)
          s.listener c.accept.new.self before c.note-in-Ok.ensures accept.port_kept
          (Shares-came is_fresh s.desks s.wanted s.failed before.steps _ (telling s.listener) (telling c.accept.new.self) number c.of.result
          c.if-self.false before.shares room first
          (subst (λ p. HandsOut (g.L.Listener.waiting s.listener) (g.L.Listener.waiting c.accept.new.self) p) (sym c.of.ensures) accept.first)
          (subst (λ p. is_fresh p) (sym c.of.ensures) accept.fresh)
          accept.counted accept.hung_up_kept accept.hang_ups_kept accept.faults_kept),
    )

pub invariant_of-self-in-Err : goal.invariant_of-self-in-Err
invariant_of-self-in-Err g c =
    let telling = heard g.L.Listener.waiting g.L.Listener.hung_up g.L.Listener.accepts g.L.Listener.hang_ups g.L.Listener.faults in
    let is_fresh = IsFresh g.L.Peer.Source.taken g.L.Peer.Sink.written g.L.Peer.Source.faults g.L.Peer.Link.ended in
    let s = c.self.inside in
    let before = c.self.invariant.1 in
    let accept = c.in-Err.ensures in
    let since = comes-since telling g.L.Listener.listens_to is_fresh s.desks s.wanted s.failed (notes s.log.value) s.listener before in
    let count : s.came ≡ length (comes before.steps) = c.self.invariant.0 ∙ ap length since in
    let room : length (comes before.steps) < s.wanted = omega (arith, count, before.shares.no_more, c.if-self-2.false) in (
      c.self.invariant.0 ∙ ap length (sym (comes-other (notes s.log.value) (c.args.number.0, Ended) refl) ∙ ap comes (sym c.note-in-Err.ensures)),
      IsShared-on telling g.L.Listener.listens_to is_fresh s.desks s.wanted s.failed true _ _ (c.args.number.0, Ended)
          s.listener c.accept.new.self before c.note-in-Err.ensures accept.port_kept
          (Shares-ended is_fresh s.desks s.wanted s.failed true before.steps _ (telling s.listener) (telling c.accept.new.self) c.args.number.0
          before.shares accept.waiting_kept accept.hung_up_kept accept.not_counted accept.hang_ups_kept accept.never_falls
          (λ none. absurd (cc)) (λ now. inr (c.if-self.false, accept.cause, room)) (inl refl)),
    )

pub returns-in-Ok-clause-peer : goal.returns-in-Ok-clause-peer
returns-in-Ok-clause-peer g c =
    (c.of.result, c.note-in-Ok.ensures ∙ ap (λ v. v.log ++ (c.args.number.0, Came c.of.result) ∷ []) c.self.view_is, c.of.ensures)
