-- All before the index are forgotten.
use Rattle.std.proofs.Common.{◌≡◌, ◌-◌, ◌≤◌, length}
use Rattle.repost_frontier.specs.Slots.{published_until}
use Rattle.repost_frontier.proofs.frontier.Frontier.forget_revalued.Given as goal

abbrev pub invariant-loop-index : goal.invariant-loop-index
invariant-loop-index l =
    (l.self-inside.list.items ≡ published_until l.fn.self.slots l.index) × (l.index ≤ length l.fn.self.slots) × (l.self-inside.list.spare ≡ l.fn.self.spare)

abbrev pub decreases-loop-index : goal.decreases-loop-index
decreases-loop-index l = length l.fn.self.slots - l.index
