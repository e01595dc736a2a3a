use Rattle.std.proofs.Common.{rules, arith, ap, sym, ◌∙◌, subst, ℕ, ◌+◌, ◌<◌}
use Rattle.turn_lock.proofs.Splitting.{splits}
use Rattle.turn_lock.proofs.lock.TurnLock.split.Goals as goal

pub split_seat-other-requires : goal.split_seat-other-requires
split_seat-other-requires g c =
    let inv = c.pass.invariant in
    let number = ap (λ p. p.view.number) c.pass.view_is ∙ c.requires.zero in
    let few = c.self.invariant.0 in
    let same = ap (λ l. l.seats) c.self.view_is in
    let room = subst (λ (n : ℕ). n + 1 < c.args.self.now.seats) (sym (ap (λ p. p.view.split) c.pass.view_is)) c.requires.room in (
      search rules,
      search rules,
      splits _ _ _ _ _ _ c.pass.inside.seat.me.0 number inv.1 (omega arith),
    )
