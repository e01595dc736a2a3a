-- None of the movements so far stands at the place.
use Rattle.std.proofs.Common.{◌≡◌, None, take}
use Rattle.posting_order.specs.Timelines.{entry_at}
use Rattle.parts_bench.proofs.posting.is_free_of.Given as goal

abbrev pub invariant-loop-entry : goal.invariant-loop-entry
invariant-loop-entry l = entry_at (take l.entry-index l.entries) l.place ≡ None
