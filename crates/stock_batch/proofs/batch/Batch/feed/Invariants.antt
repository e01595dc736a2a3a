-- A front of the piece was fed. Each line makes the rest shorter.
use Rattle.std.proofs.Common.{length}
use Rattle.stock_batch.proofs.Batches.{HasFed}
use Rattle.stock_batch.proofs.batch.Batch.feed.Given as goal

abbrev pub invariant-loop-line : goal.invariant-loop-line
invariant-loop-line g l = HasFed l.fn.self l.self l.piece l.rest

abbrev pub decreases-loop-line : goal.decreases-loop-line
decreases-loop-line g l = length l.rest
