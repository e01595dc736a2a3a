-- Fewer blocks are left.
use Rattle.std.proofs.Common.{length}
use Rattle.report_mirror.proofs.record_blocks.+blocks_kept.Given as goal

abbrev pub decreases-blocks_kept : goal.decreases-blocks_kept
decreases-blocks_kept l = length l.blocks.now
