-- The shares so far, and the blocks that are left, are all blocks.
use Rattle.std.proofs.Common.{◌≡◌, ◌++◌, drop}
use Rattle.report_mirror.proofs.record_blocks.shares_of.Given as goal

abbrev pub invariant-loop-block : goal.invariant-loop-block
invariant-loop-block l = l.shares ++ drop l.block-index l.blocks ≡ l.blocks
