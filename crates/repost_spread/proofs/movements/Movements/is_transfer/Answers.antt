-- What is read at the place is the movement that stands there.
use Rattle.std.proofs.Common.{◌≡◌, true, subst, ◌↔◌}
use Rattle.stock_nums.specs.declared.cause.Cause.TheVariants.{TransferEnters}
use Rattle.stock_nums.specs.declared.entry.Entry.{Entry}
use Rattle.repost_spread.proofs.LinkingLines.{is-arriving}
use Rattle.repost_spread.proofs.TouchingLines.{read-is, read-none}
use Rattle.repost_spread.proofs.movements.Movements.is_transfer.Goals as goal

pub returns-in-Some : goal.returns-in-Some
returns-in-Some c = λ f held at.
    subst (λ (e : Entry). (c.eq.result ≡ true) ↔ (e.cause ≡ TransferEnters))
    (read-is c.args.self.now.frontier.slots c.args.place.now c.in-Some.slot.now f c.get.ensures.in_order c.in-Some.ensures.found held at)
    (is-arriving c.in-Some.slot.now.entry.cause c.eq.result c.eq.ensures)

pub returns-in-None : goal.returns-in-None
returns-in-None c = λ f held at. absurd (read-none c.args.self.now.frontier.slots c.args.place.now f c.get.ensures.in_order c.in-None.ensures.found held at)
