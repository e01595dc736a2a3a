use Rattle.std.proofs.Common.{rules, ap, ◌∙◌, ◌<◌, ◌-◌, arith}
use Rattle.turn_lock.proofs.Keeps.{hand_gives, rings}
use Rattle.turn_lock.proofs.lock.TurnLock.give.Goals as goal

pub fetch_add-served-requires : goal.fetch_add-served-requires
fetch_add-served-requires g c =
    let inv = c.hand.invariant in (
      search rules,
      search rules,
      hand_gives _ _ _ _ _ _ _ _ c.hand.inside.seat.me.0 c.hand.inside.seat.me.1 c.held.inside.book c.args.held.book c.args.held.taken c.args.held.taken_faults c.args.held.view.number c.args.held.view.start
          c.exchange.ensures.3 inv.4 inv.3 inv.2 (ap (λ h. h.taken) c.hand.view_is ∙ ap (λ h. h.taken) c.held.view_is) (ap (λ h. h.taken_faults) c.hand.view_is ∙ ap (λ h. h.taken_faults) c.held.view_is)
          (ap (λ h. h.view.number) c.hand.view_is ∙ ap (λ h. h.view.number) c.held.view_is)
          (ap (λ h. h.view.start) c.hand.view_is ∙ ap (λ h. h.view.start) c.held.view_is) (ap (λ h. h.book) c.held.view_is) c.requires.grown c.requires.own c.requires.no_fewer_faults c.requires.follows,
    )

pub fetch_add-requires : goal.fetch_add-requires
fetch_add-requires g c =
    let low : 1 < c.bell_of-bell.result = c.bell_of-bell.ensures.0 in (
      search rules,
      search rules,
      rings _ _ _ _ _ _ _ _ c.bell_of-bell.result (c.bell_of-bell.result - 2) (omega (arith, low)),
    )
