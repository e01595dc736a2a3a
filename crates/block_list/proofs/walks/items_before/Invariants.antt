-- The blocks so far have so many items.
use Rattle.std.proofs.Common.{◌≡◌, ◌-◌, ◌≤◌, length, take}
use Rattle.block_list.specs.Blocks.{joined}
use Rattle.block_list.proofs.walks.items_before.Given as goal

abbrev pub invariant-loop-place : goal.invariant-loop-place
invariant-loop-place g l = (l.place.block ≤ l.count) × (l.place.index ≡ length (joined (take l.place.block l.blocks)))

abbrev pub decreases-loop-place : goal.decreases-loop-place
decreases-loop-place g l = l.count - l.place.block
