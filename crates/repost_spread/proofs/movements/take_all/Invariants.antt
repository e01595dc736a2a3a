-- What is left without the rest is what is left without all, and each of the rest is there.
use Rattle.std.proofs.Common.{◌≡◌, Contains, drop}
use Rattle.stock_nums.specs.declared.entry.Entry.{Entry}
use Rattle.quantity_check.specs.OwnPlaces.{HaveOwnPlaces}
use Rattle.repost_index.specs.Indexed.{AreIndexed}
use Rattle.repost_spread.specs.Movements.{entries_of}
use Rattle.repost_spread.specs.Removing.{slots_but_all, line_but_all}
use Rattle.repost_spread.proofs.movements.take_all.Given as goal

abbrev pub ghost-take : goal.ghost-take
ghost-take a = entries_of a.frontier.now.slots

abbrev pub invariant-loop-entry : goal.invariant-loop-entry
invariant-loop-entry l = record {
  slots : slots_but_all l.frontier.slots (drop l.entry-index l.gone) ≡ slots_but_all l.fn.frontier.slots l.gone;
  line : line_but_all (entries_of l.frontier.slots) (drop l.entry-index l.gone) ≡ line_but_all (entries_of l.fn.frontier.slots) l.gone;
  held : (e : Entry) → Contains (drop l.entry-index l.gone) e → Contains (entries_of l.frontier.slots) e;
  apart : HaveOwnPlaces (drop l.entry-index l.gone);
  indexed : AreIndexed (entries_of l.frontier.slots) l.index;
}
