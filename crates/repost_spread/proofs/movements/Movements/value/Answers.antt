-- The line stays.
use Rattle.std.proofs.Common.{List, ap, ◌∙◌, sym, subst}
use Rattle.stock_nums.specs.declared.entry.Entry.{Entry}
use Rattle.repost_frontier.specs.declared.slot.Slot.{Slot}
use Rattle.repost_frontier.proofs.SlotOrder.{entries-with_value}
use Rattle.repost_spread.specs.Movements.{AreFoundBy, entries_of}
use Rattle.repost_spread.proofs.movements.Movements.value.Goals as goal

pub returns-clause-kept : goal.returns-clause-kept
returns-clause-kept c =
    subst (λ (line : List Entry). AreFoundBy line c.args.self.now.index c.args.self.now.links)
    (sym (ap (λ (slots : List Slot). entries_of slots) c.value.ensures.valued ∙ entries-with_value c.args.self.now.frontier.slots c.args.place.now c.args.found)) c.requires
