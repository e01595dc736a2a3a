-- What contracts see of links in memory.
use Rattle.std.specs.Prelude.{ℕ, ◌+◌, Bool, true, false, List}
use Rattle.stock_io.specs.Memory.{PlannedSupply, PlannedStore, new_source, new_sink, after_read, after_failed_read, after_write, after_failed_write}

-- the bytes that come from the peer, those that go to it, and whether the link was ended
pub record PlannedLink : Type 0 where
  pub source : PlannedSupply
  pub sink : PlannedStore
  pub ended : Bool

-- the link before the first call
abbrev pub new_link : List ℕ → ℕ → ℕ → List ℕ → List ℕ → PlannedLink
new_link bytes piece room failing_reads failing_writes =
    record { source = new_source bytes piece failing_reads; sink = new_sink room failing_writes; ended = false }

-- the faults of both directions
abbrev pub link_faults : PlannedLink → ℕ
link_faults link = link.source.plan.faults + link.sink.plan.faults

-- the link after a read that took so many bytes, and after one that failed
abbrev pub after_link_read : PlannedLink → ℕ → PlannedLink
after_link_read link n = record { source = after_read link.source n; sink = link.sink; ended = link.ended }

abbrev pub after_failed_link_read : PlannedLink → PlannedLink
after_failed_link_read link = record { source = after_failed_read link.source; sink = link.sink; ended = link.ended }

-- the link after a write that took these bytes, and after one that failed
abbrev pub after_link_write : PlannedLink → List ℕ → PlannedLink
after_link_write link bytes = record { source = link.source; sink = after_write link.sink bytes; ended = link.ended }

abbrev pub after_failed_link_write : PlannedLink → PlannedLink
after_failed_link_write link = record { source = link.source; sink = after_failed_write link.sink; ended = link.ended }

-- the link once it was ended
abbrev pub after_end : PlannedLink → PlannedLink
after_end link = record { source = link.source; sink = link.sink; ended = true }
