-- The desk asked in a turn of its pass.
use Rattle.std.proofs.Common.{◌≡◌, ℕ, ap, ◌∙◌, sym, subst}
use Rattle.std.specs.Prelude.{All}
use Rattle.turn_lock.specs.Histories.{past}
use Rattle.desk_connections.specs.Ways.{Asks}
use Rattle.desk_connections.proofs.WayTurns.{IsWay-turned, asks-from, asks-begins, asks-own, asks-made}
use Rattle.desk_connections.proofs.finding.ask.Goals as goal

pub give-requires-clause-grown : goal.give-requires-clause-grown
give-requires-clause-grown g c =
    let next = c.next-next in
    let taken = ap (λ s. s.log) c.book.ensures.value ∙ c.take-held.ensures.history in
    let asks = asks-from c.args.number.0 next.result c.take-held.result.taken c.book.result.now.log next.new.self.log taken next.ensures.peer
    next.ensures.over (λ same. ap (λ s. s.log) (next.ensures.unchanged same)) in
    asks-begins c.args.number.0 next.result c.take-held.result.taken next.new.self.log asks

pub give-requires-clause-own : goal.give-requires-clause-own
give-requires-clause-own g c =
    let next = c.next-next in
    let taken = ap (λ s. s.log) c.book.ensures.value ∙ c.take-held.ensures.history in
    let asks = asks-from c.args.number.0 next.result c.take-held.result.taken c.book.result.now.log next.new.self.log taken next.ensures.peer
    next.ensures.over (λ same. ap (λ s. s.log) (next.ensures.unchanged same)) in
    let number = c.requires.number ∙ sym (ap (λ v. v.number) c.take-held.ensures.pass.1) in
    subst (λ (n : ℕ). All (λ e. e.0 ≡ n) (past c.take-held.result.taken next.new.self.log)) number
    (asks-own c.args.number.0 next.result c.take-held.result.taken next.new.self.log asks)

pub returns-clause-way : goal.returns-clause-way
returns-clause-way g c =
    let next = c.next-next in
    let taken = ap (λ s. s.log) c.book.ensures.value ∙ c.take-held.ensures.history in
    let asks = asks-from c.args.number.0 next.result c.take-held.result.taken c.book.result.now.log next.new.self.log taken next.ensures.peer
    next.ensures.over (λ same. ap (λ s. s.log) (next.ensures.unchanged same)) in
    let given = c.give.ensures in
    IsWay-turned c.args.way.view c.give.result.view c.take-held.result.taken next.new.self.log c.requires.way
    (ap (λ v. v.first) given.rest ∙ ap (λ v. v.first) c.take-held.ensures.pass.1) c.take-held.ensures.begins
    (asks-begins c.args.number.0 next.result c.take-held.result.taken next.new.self.log asks) given.seen.0

pub returns-clause-told : goal.returns-clause-told
returns-clause-told g c =
    let next = c.next-next in
    let taken = ap (λ s. s.log) c.book.ensures.value ∙ c.take-held.ensures.history in
    let asks = asks-from c.args.number.0 next.result c.take-held.result.taken c.book.result.now.log next.new.self.log taken next.ensures.peer
    next.ensures.over (λ same. ap (λ s. s.log) (next.ensures.unchanged same)) in
    subst (λ made. Asks c.args.number.0 made next.result c.give.result.view.made) (ap (λ v. v.made) c.take-held.ensures.pass.1)
    (asks-made c.args.number.0 next.result c.take-held.result.taken next.new.self.log c.take-held.result.view.made c.give.result.view.made asks
    c.give.ensures.made)
