-- The groups so far have so many items.
use Rattle.std.proofs.Common.{◌≡◌, ◌-◌, ◌*◌, ◌/◌, ◌≤◌, length, take}
use Rattle.block_list.specs.Blocks.{joined}
use Rattle.block_list.specs.declared.sums.TheConstants.{GROUP}
use Rattle.block_list.proofs.groups.items_before.Given as goal

abbrev pub invariant-loop-place : goal.invariant-loop-place
invariant-loop-place g l = (l.place.group ≤ l.count / GROUP) × (l.place.index ≡ length (joined (take (GROUP * l.place.group) l.blocks)))

abbrev pub decreases-loop-place : goal.decreases-loop-place
decreases-loop-place g l = l.count / GROUP - l.place.group
