-- The groups so far have their heads.
use Rattle.std.proofs.Common.{◌≡◌, ℕ, ◌-◌, ◌*◌, ◌<◌, length, slice_index_or, vec_len, vec_capacity}
use Rattle.block_list.specs.Blocks.{joined}
use Rattle.block_list.specs.Heads.{group_at, IsHead}
use Rattle.block_list.specs.declared.sums.TheConstants.{GROUP}
use Rattle.block_list.specs.declared.heads.Head.{Head}
use Rattle.block_list.proofs.heads.renew_all.Given as goal

abbrev pub invariant-loop-heads : goal.invariant-loop-heads
invariant-loop-heads g l =
    ((k : ℕ) (d : Head) → k < length l.heads.items → IsHead g.W.Weigh.weight (slice_index_or l.heads.items k d) (joined (group_at l.blocks k)))
    × (vec_capacity l.heads ≡ vec_capacity l.fn.heads)

abbrev pub decreases-loop-heads : goal.decreases-loop-heads
decreases-loop-heads g l = length l.blocks - GROUP * vec_len l.heads
