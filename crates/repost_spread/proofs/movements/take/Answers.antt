-- What is left are the movements of the slots that are left.
use Rattle.std.proofs.Common.{List, map, ap, ◌∙◌}
use Rattle.stock_nums.specs.declared.entry.Entry.{Entry}
use Rattle.posting_order.specs.Timelines.{without}
use Rattle.repost_frontier.specs.Slots.{slot_entry}
use Rattle.repost_frontier.proofs.SlotsLeft.{left-entries}
use Rattle.repost_spread.proofs.movements.take.Goals as goal

pub returns-clause-line : goal.returns-clause-line
returns-clause-line g c =
    let place = c.args.entry.now.place in
    ap (map slot_entry) c.remove-2.ensures.rest ∙ left-entries c.args.frontier.now.slots place
    ∙ ap (λ (es : List Entry). without es place) c.requires.0
