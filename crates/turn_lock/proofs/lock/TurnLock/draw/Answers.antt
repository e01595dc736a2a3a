use Rattle.std.proofs.Common.{rules, refl, ap, subst, sym, ◌∙◌, ◌<◌, ◌^◌, length}
use Rattle.turn_lock.proofs.Keeps.{looks, draws}
use Rattle.turn_lock.proofs.lock.TurnLock.draw.Goals as goal

pub load-next-requires : goal.load-next-requires
load-next-requires g c = (search rules, search rules, looks _ _ _ _ _ _ _ _)

pub compare_exchange-found-requires : goal.compare_exchange-found-requires
compare_exchange-found-requires g c =
    let same = c.loop.invariant.same ∙ c.load-next.ensures.2.0 in let r = c.requires.rests in (
      search rules,
      search rules,
      draws _ _ _ _ _ _ _ _ c.loop.next _ refl (ap (λ m. m.0.turn) same ∙ r.0) (subst (λ m. 0 < m.0.passes) (sym same) r.1) (subst (λ m. length m.0.stops < 2 ^ 57) (sym same) r.2),
    )
