-- The groups so far hold the items before the rest of the index.
use Rattle.std.proofs.Common.{◌≡◌, ◌+◌, ◌-◌, ◌*◌, ◌≤◌, length, take}
use Rattle.block_list.specs.Blocks.{joined}
use Rattle.block_list.specs.declared.sums.TheConstants.{GROUP}
use Rattle.block_list.proofs.groups.spot_of.Given as goal

abbrev pub invariant-loop-at : goal.invariant-loop-at
invariant-loop-at g l = (l.at.group ≤ length l.heads) × (l.fn.index ≡ length (joined (take (GROUP * l.at.group) l.blocks)) + l.at.index)

abbrev pub decreases-loop-at : goal.decreases-loop-at
decreases-loop-at g l = length l.heads - l.at.group
