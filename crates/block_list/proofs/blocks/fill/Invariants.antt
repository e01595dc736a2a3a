-- The pool has only empty blocks, no fewer than before and no more than there is room for.
use Rattle.std.proofs.Common.{◌≡◌, ◌-◌, ◌≤◌, [], vec_len, vec_capacity}
use Rattle.std.specs.List.{All}
use Rattle.block_list.proofs.blocks.fill.Given as goal

abbrev pub invariant-loop-alloc : goal.invariant-loop-alloc
invariant-loop-alloc g l =
    All (λ b. b ≡ []) l.pool.items × (vec_len l.fn.pool ≤ vec_len l.pool) × (vec_len l.pool ≤ l.n) × (vec_capacity l.pool ≡ vec_capacity l.fn.pool)

abbrev pub decreases-loop-alloc : goal.decreases-loop-alloc
decreases-loop-alloc g l = l.n - vec_len l.pool
