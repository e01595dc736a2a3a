-- Before the lower end there is an item that comes before the bound, and at the upper end one that does not.
use Rattle.std.proofs.Common.{◌≡◌, ◌-◌, ◌<◌, ◌≤◌, true, false, length, slice_index_or}
use Rattle.block_list.proofs.bound.search.Given as goal

abbrev pub invariant-loop-span : goal.invariant-loop-span
invariant-loop-span g l =
    (l.span.low ≤ l.span.high) × (l.span.high ≤ length l.items)
    × ((d : g.row.T.Denot) → 0 < l.span.low → g.B.Bound.above l.fn.bound (slice_index_or l.items (l.span.low - 1) d) ≡ true)
    × ((d : g.row.T.Denot) → l.span.high < length l.items → g.B.Bound.above l.fn.bound (slice_index_or l.items l.span.high d) ≡ false)

abbrev pub decreases-loop-span : goal.decreases-loop-span
decreases-loop-span g l = l.span.high - l.span.low
