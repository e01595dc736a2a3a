-- Fewer blocks are left.
use Rattle.std.proofs.Common.{length}
use Rattle.report_mirror.proofs.record_walk.+first_of.Given as goal

abbrev pub decreases-first_of : goal.decreases-first_of
decreases-first_of l = length l.blocks.now
