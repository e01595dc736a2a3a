-- How many movements the records of a journal ever made.
use Rattle.std.proofs.Common.{◌≤◌, List, [], ◌++◌, length, ap, arith, length-append}
use Rattle.stock_model.specs.Entries.{entries_after, is_live_entry, all_entries}
use Rattle.stock_model.specs.PostingOrder.{posting_line}
use Rattle.stock_model.specs.declared.records.Record.{Record}
use Rattle.stock_model.proofs.Growth.{entries_after-append, length-posting_line}
use Rattle.stock_laws.proofs.LiveEntries.{length-filter-le}
use Rattle.repost_laws.specs.WholeBuilds.{made}

-- no more movements are in the line than were ever made
pub length-line-made : (journal : List Record) → length (posting_line journal) ≤ made journal
unfolding all_entries
length-line-made journal = omega (arith, length-posting_line journal, length-filter-le (is_live_entry journal) (entries_after [] journal))

-- further records make none fewer
pub made-grows : (journal more : List Record) → made journal ≤ made (journal ++ more)
made-grows journal more =
    omega (arith, ap length (entries_after-append [] journal more), length-append (entries_after [] journal) (entries_after journal more))
