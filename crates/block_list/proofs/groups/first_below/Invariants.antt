-- How far the sum has come, and how many items come before the group.
use Rattle.std.proofs.Common.{◌≡◌, ◌+◌, ◌-◌, ◌*◌, ◌^◌, ◌≤◌, unsigned_abs, length, take}
use Rattle.block_list.specs.Blocks.{joined}
use Rattle.block_list.specs.Sums.{HasCome}
use Rattle.block_list.specs.declared.sums.TheConstants.{GROUP}
use Rattle.block_list.proofs.groups.first_below.Given as goal

abbrev pub invariant-loop-place : goal.invariant-loop-place
invariant-loop-place g l =
    HasCome g.W.Weigh.weight (joined l.blocks) l.fn.start.index l.fn.end l.fn.start.before l.at.index l.at.before
    × (unsigned_abs l.at.before ≤ unsigned_abs l.fn.start.before + (l.at.index - l.fn.start.index) * 2 ^ 40)
    × (l.place.group ≤ length l.heads) × (l.place.index ≡ length (joined (take (GROUP * l.place.group) l.blocks))) × (l.place.index ≤ l.at.index)

abbrev pub decreases-loop-place : goal.decreases-loop-place
decreases-loop-place g l = length l.heads - l.place.group
