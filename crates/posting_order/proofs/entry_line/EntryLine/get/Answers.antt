-- What is read at the index of the place stands there.
use Rattle.std.proofs.Common.{sym, ◌∙◌}
use Rattle.std.specs.Option.{option_copied}
use Rattle.posting_order.proofs.Places.{entry_at-told}
use Rattle.posting_order.proofs.entry_line.EntryLine.get.Goals as goal

pub returns-clause-place : goal.returns-clause-place
returns-clause-place c =
    entry_at-told c.self.inside.list.items c.args.place.now (option_copied c.get.result) (c.get.ensures ∙ sym c.in_ok-index.ensures.found.1)
