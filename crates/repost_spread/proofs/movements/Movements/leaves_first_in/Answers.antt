-- What is read at the place is the movement that stands there.
use Rattle.std.proofs.Common.{true, false, refl, sym, ap, ◌∙◌}
use Rattle.std.proofs.lemmas.Bool.{false≢true}
use Rattle.stock_nums.specs.Causes.{is_entering}
use Rattle.stock_nums.specs.declared.entry.Entry.{Entry}
use Rattle.stock_nums.specs.declared.place.Place.{Place}
use Rattle.repost_spread.proofs.TouchingLines.{is-fifo, is-leaving, read-is, read-none}
use Rattle.repost_spread.proofs.movements.Movements.leaves_first_in.Goals as goal

pub returns-then-eq : goal.returns-then-eq
returns-then-eq c = λ f held at.
    let s = c.in-Some.slot.now in
    let same = read-is c.args.self.now.frontier.slots c.args.place.now s f c.get.ensures.in_order c.in-Some.ensures.found held at in
    let first = (is-fifo s.entry.method true c.if-eq.ensures).0 refl in
    let side = is-leaving c.args.place.now.side c.eq-then-eq.result c.eq-then-eq.ensures in
    let own = ap (λ (p : Place). is_entering p.side) at in
    (λ yes. (ap (λ (e : Entry). e.method) (sym same) ∙ first, own ∙ side.0 yes), λ is. side.1 (sym own ∙ is.1))

pub returns-else-eq : goal.returns-else-eq
returns-else-eq c = λ f held at.
    let s = c.in-Some.slot.now in
    let same = read-is c.args.self.now.frontier.slots c.args.place.now s f c.get.ensures.in_order c.in-Some.ensures.found held at in (
      λ yes. absurd (false≢true (sym c.if-eq.false ∙ yes)),
      λ is. absurd (false≢true ((is-fifo s.entry.method false c.if-eq.ensures).1 (ap (λ (e : Entry). e.method) same ∙ is.0))),
    )

pub returns-in-None : goal.returns-in-None
returns-in-None c = λ f held at. absurd (read-none c.args.self.now.frontier.slots c.args.place.now f c.get.ensures.in_order c.in-None.ensures.found held at)
