use Rattle.std.proofs.Common.{ℕ, rules, arith, ap, sym, ◌∙◌, subst, ◌<◌, ◌+◌}
use Rattle.turn_lock.proofs.Joining.{joins}
use Rattle.turn_lock.proofs.Keeps.{checks}
use Rattle.turn_lock.proofs.lock.TurnLock.join.Goals as goal

more : (a b : ℕ) → 0 < a → 0 < a + b
more a b h = omega arith

pub join_seat-requires : goal.join_seat-requires
join_seat-requires g c =
    let a = c.kept.invariant in let b = c.other.invariant in
    let number = ap (λ p. p.view.number) c.kept.view_is ∙ c.requires.zero in
    (search rules, search rules, search rules, search rules, joins _ _ _ _ _ _ _ c.kept.inside.seat.me.0 c.other.inside.seat.me.0 number a.1 b.1 a.2 b.2)

pub load-requires : goal.load-requires
load-requires g c =
    let a = c.kept.invariant in
    let number = ap (λ p. p.view.number) c.kept.view_is ∙ c.requires.zero in
    let now = c.join_seat.ensures.2 in
    (search rules, search rules, checks _ _ _ _ _ _ _ _ (ap (λ m. m.0.number) now ∙ number) (subst (λ m. 0 < m.0.passes) (sym now) (more _ _ a.1)))
