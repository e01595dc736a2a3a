use Rattle.std.proofs.Common.{ap, ◌∙◌, sym, length}
use Rattle.turn_lock.proofs.Closing.{closes, one_value, some_value, closed}
use Rattle.turn_lock.proofs.lock.TurnLock.close.Goals as goal

pub unreachable-requires : goal.unreachable-requires
unreachable-requires g c =
    let inv = c.pass.invariant in
    let number = ap (λ p. p.view.number) c.pass.view_is ∙ c.requires.zero in
    let joined = ap (λ p. length p.view.joined) c.pass.view_is ∙ c.requires.all_joined ∙ sym (ap (λ p. p.view.split) c.pass.view_is) in
    let last = closes g.B.Logged.history g.B.Logged.faults g.B.Logged.start g.B.Logged.follows c.self.inside.table.shared.key.value c.pass.inside.seat.id c.pass.inside.seat.me.0 _ _ number inv.1 inv.2 joined c.close_with-closed.ensures.values.2 in
    some_value last.0 _ c.take-slot.result last.1 c.take-slot.ensures.value c.in-None.is

pub returns : goal.returns
returns g c =
    let inv = c.pass.invariant in
    let number = ap (λ p. p.view.number) c.pass.view_is ∙ c.requires.zero in
    let joined = ap (λ p. length p.view.joined) c.pass.view_is ∙ c.requires.all_joined ∙ sym (ap (λ p. p.view.split) c.pass.view_is) in
    let last = closes g.B.Logged.history g.B.Logged.faults g.B.Logged.start g.B.Logged.follows c.self.inside.table.shared.key.value c.pass.inside.seat.id c.pass.inside.seat.me.0 _ _ number inv.1 inv.2 joined c.close_with-closed.ensures.values.2 in
    let same = one_value last.0 c.in-Some.book _ c.take-slot.result last.1 c.take-slot.ensures.value c.in-Some.is in
    let is = closed g.B.Logged.history g.B.Logged.faults g.B.Logged.start g.B.Logged.follows c.self.inside.table.shared.key.value c.pass.inside.seat.me.0 c.args.pass.view last.0 c.in-Some.book (ap (λ p. p.view) c.pass.view_is) same last.2 in
    record { seen = is.seen; faults = is.counted; follows = is.followed; begins = is.begins; made = is.made; rose = is.rose }
