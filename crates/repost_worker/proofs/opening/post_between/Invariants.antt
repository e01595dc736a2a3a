-- The records so far are the first stored ones, and nothing more is covered.
use Rattle.std.proofs.Common.{◌≡◌}
use Rattle.stock_model.specs.History.{records, accepted, covered, IsLegal}
use Rattle.kept_tables.specs.Openings.{AreStored}
use Rattle.repost_worker.specs.Paces.{IsSamePace}
use Rattle.repost_worker.specs.Published.{KeepsAlone}
use Rattle.repost_worker.proofs.opening.post_between.Given as goal

abbrev pub invariant-loop-index : goal.invariant-loop-index
invariant-loop-index l = record {
  stored : AreStored (records l.book.history) l.tables;
  at : accepted l.book.history ≡ l.index;
  covered : covered l.book.history ≡ covered l.fn.book.history;
  kept : KeepsAlone l.fn.book.history l.book.history;
  pace : IsSamePace l.fn.book l.book;
  legal : IsLegal l.book.history;
}
