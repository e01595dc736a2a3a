-- The sum of the items so far, the least of their fronts, and how large both can be.
use Rattle.std.proofs.Common.{◌≡◌, ℕ, ◌*◌, ◌^◌, ◌≤◌, ◌≤ℤ◌, unsigned_abs, take}
use Rattle.block_list.specs.Sums.{total}
use Rattle.block_list.proofs.sums.measure.Given as goal

abbrev pub invariant-loop-item : goal.invariant-loop-item
invariant-loop-item g l =
    (l.found.sum ≡ total g.W.Weigh.weight (take l.item-index l.items))
    × ((k : ℕ) → k ≤ l.item-index → l.found.low ≤ℤ total g.W.Weigh.weight (take k l.items))
    × (unsigned_abs l.found.sum ≤ l.item-index * 2 ^ 40) × (unsigned_abs l.found.low ≤ l.item-index * 2 ^ 40)
