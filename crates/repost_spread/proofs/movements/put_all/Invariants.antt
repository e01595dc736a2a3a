-- The rest put among the others gives what all give, each still has its place, and there is room for the rest.
use Rattle.std.proofs.Common.{◌≡◌, ◌+◌, ◌-◌, ◌≤◌, ◌++◌, length, drop}
use Rattle.stock_model.specs.PostingOrder.{put_all}
use Rattle.quantity_check.specs.OwnPlaces.{HaveOwnPlaces}
use Rattle.repost_index.specs.Indexed.{AreIndexed, HasRoom}
use Rattle.repost_laws.specs.Fetches.{AreDated}
use Rattle.repost_spread.specs.Adding.{put_all_new}
use Rattle.repost_spread.specs.Movements.{entries_of}
use Rattle.repost_spread.proofs.movements.put_all.Given as goal

abbrev pub ghost-put : goal.ghost-put
ghost-put a = entries_of a.frontier.now.slots

abbrev pub invariant-loop-entry : goal.invariant-loop-entry
invariant-loop-entry l = record {
  slots : put_all_new l.frontier.slots (drop l.entry-index l.entries) ≡ put_all_new l.fn.frontier.slots l.entries;
  line : put_all (entries_of l.frontier.slots) (drop l.entry-index l.entries) ≡ put_all (entries_of l.fn.frontier.slots) l.entries;
  apart : HaveOwnPlaces (entries_of l.frontier.slots ++ drop l.entry-index l.entries);
  dated : AreDated (entries_of l.frontier.slots ++ drop l.entry-index l.entries);
  indexed : AreIndexed (entries_of l.frontier.slots) l.index;
  room : length l.entries ≤ l.frontier.spare + l.entry-index;
  index_room : HasRoom (length l.entries - l.entry-index) l.index;
  count : length (entries_of l.frontier.slots) ≡ length (entries_of l.fn.frontier.slots) + l.entry-index;
}
