use Rattle.std.proofs.Common.{◌≡◌, take, drop, filter, []}
use Rattle.stock_model.specs.Entries.{is_live_entry, entries_after}
use Rattle.stock_model.specs.PostingOrder.{put_all}
use Rattle.stock_model.proofs.posting.posting_line.Given as goal

abbrev pub invariant-loop-index : goal.invariant-loop-index
invariant-loop-index l =
    put_all l.line (filter (is_live_entry l.records) (entries_after (take l.index l.records) (drop l.index l.records)))
    ≡ put_all [] (filter (is_live_entry l.records) (entries_after [] l.records))
