-- The rest put into the line gives what all give, each still has its place, and there is room for the rest.
use Rattle.std.proofs.Common.{◌≡◌, ◌+◌, ◌≤◌, ◌++◌, length, drop}
use Rattle.stock_model.specs.PostingOrder.{put_all}
use Rattle.quantity_check.specs.OwnPlaces.{HaveOwnPlaces}
use Rattle.quantity_check.proofs.running.insert_all.Given as goal

abbrev pub invariant-loop-entry : goal.invariant-loop-entry
invariant-loop-entry l = record {
  added : put_all l.line.entries (drop l.entry-index l.entries) ≡ put_all l.initial.line.entries l.entries;
  apart : HaveOwnPlaces (l.line.entries ++ drop l.entry-index l.entries);
  room : l.initial.line.spare ≤ l.line.spare + l.entry-index;
  count : length l.line.entries ≡ length l.initial.line.entries + l.entry-index;
}
