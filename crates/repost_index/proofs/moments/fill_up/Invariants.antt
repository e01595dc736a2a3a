-- The moments that were there stay in front.
use Rattle.std.proofs.Common.{◌≡◌, ℕ, ◌-◌, ◌<◌, ◌≤◌, length, vec_len, vec_capacity}
use Rattle.std.specs.List.{slice_get}
use Rattle.repost_index.proofs.moments.fill_up.Given as goal

abbrev pub invariant-loop-moment : goal.invariant-loop-moment
invariant-loop-moment l =
    ((i : ℕ) → i < length l.fn.moments.items → slice_get l.moments.items i ≡ slice_get l.fn.moments.items i)
    × (vec_len l.fn.moments ≤ vec_len l.moments)
    × (vec_capacity l.moments ≡ vec_capacity l.fn.moments)

abbrev pub decreases-loop-moment : goal.decreases-loop-moment
decreases-loop-moment l = l.count - vec_len l.moments
