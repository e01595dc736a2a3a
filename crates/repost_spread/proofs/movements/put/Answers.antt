-- No movement stands at the place.
use Rattle.std.proofs.Common.{◌≡◌, List, None, sym, subst}
use Rattle.stock_nums.specs.declared.entry.Entry.{Entry}
use Rattle.posting_order.specs.Timelines.{entry_at}
use Rattle.repost_index.proofs.PutLines.{none-at}
use Rattle.repost_spread.proofs.Puts.{slot-none}
use Rattle.repost_spread.proofs.movements.put.Goals as goal

pub insert-requires-2-clause-apart : goal.insert-requires-2-clause-apart
insert-requires-2-clause-apart g c =
    let e = c.args.entry.now in
    slot-none c.args.frontier.now.slots e.place
    (subst (λ (es : List Entry). entry_at es e.place ≡ None) (sym c.requires.0) (none-at g.line e.place c.requires.1.1.0.apart))
