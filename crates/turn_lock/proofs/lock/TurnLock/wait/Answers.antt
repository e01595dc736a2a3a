use Rattle.std.proofs.Common.{rules, ap, subst, sym, ◌∙◌, ◌<◌}
use Rattle.std.specs.Prelude.{◌∷◌, Some}
use Rattle.atomic_table.specs.Table.{rest}
use Rattle.turn_lock.specs.Views.{ticket_of}
use Rattle.turn_lock.proofs.Keeps.{comes}
use Rattle.turn_lock.proofs.lock.TurnLock.wait.Goals as goal

pub load-found-requires : goal.load-found-requires
load-found-requires g c =
    let same = c.loop.invariant.same in let r = c.requires.drawn in (
      search rules,
      search rules,
      comes _ _ _ _ _ _ _ _ c.args.ticket (ap (λ m. m.0.turn) same ∙ r.0) (subst (λ m. 0 < m.0.passes) (sym same) r.1),
    )

pub exchange-requires : goal.exchange-requires
exchange-requires g c =
    let turn = ap (λ m. m.0.turn) c.loop.invariant.same ∙ c.requires.drawn.0 in
    let had = c.load-found.ensures.2.0 (c.if-found-ticket.true ∙ sym (ap ticket_of turn)) in
    let has = ap (λ m. m.1) had.1 in
    (search rules, (Some had.0, has ∙ (λ i. (0, Some had.0) ∷ sym (ap rest has) i)))
