-- The blocks so far hold the items before the rest of the index.
use Rattle.std.proofs.Common.{◌≡◌, ◌+◌, ◌-◌, ◌≤◌, length, take}
use Rattle.block_list.specs.Blocks.{joined}
use Rattle.block_list.proofs.walks.spot_of.Given as goal

abbrev pub invariant-loop-at : goal.invariant-loop-at
invariant-loop-at g l = (l.at.block ≤ length l.blocks) × (l.fn.index ≡ length (joined (take l.at.block l.blocks)) + l.at.index)

abbrev pub decreases-loop-at : goal.decreases-loop-at
decreases-loop-at g l = length l.blocks - l.at.block
