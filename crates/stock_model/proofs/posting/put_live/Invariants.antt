use Rattle.std.proofs.Common.{◌≡◌, drop, filter}
use Rattle.stock_model.specs.Entries.{is_live_entry}
use Rattle.stock_model.specs.PostingOrder.{put_all}
use Rattle.stock_model.proofs.posting.put_live.Given as goal

abbrev pub invariant-loop-entry : goal.invariant-loop-entry
invariant-loop-entry l =
    put_all l.line (filter (is_live_entry l.records) (drop l.entry-index l.entries)) ≡ put_all l.initial.line (filter (is_live_entry l.records) l.entries)
