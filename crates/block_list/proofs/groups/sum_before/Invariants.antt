-- The groups so far hold the items that were passed, and the sum is theirs.
use Rattle.std.proofs.Common.{◌≡◌, ◌+◌, ◌-◌, ◌*◌, ◌^◌, ◌≤◌, unsigned_abs, length, take}
use Rattle.block_list.specs.Blocks.{joined}
use Rattle.block_list.specs.Sums.{total}
use Rattle.block_list.specs.declared.sums.TheConstants.{GROUP}
use Rattle.block_list.proofs.groups.sum_before.Given as goal

abbrev pub invariant-loop-at : goal.invariant-loop-at
invariant-loop-at g l =
    (l.at.group ≤ length l.heads) × (l.fn.index ≡ length (joined (take (GROUP * l.at.group) l.blocks)) + l.at.left)
    × (l.at.sum ≡ total g.W.Weigh.weight (joined (take (GROUP * l.at.group) l.blocks)))
    × (unsigned_abs l.at.sum ≤ length (joined (take (GROUP * l.at.group) l.blocks)) * 2 ^ 40)

abbrev pub decreases-loop-at : goal.decreases-loop-at
decreases-loop-at g l = length l.heads - l.at.group
