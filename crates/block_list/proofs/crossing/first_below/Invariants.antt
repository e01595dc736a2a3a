-- How far the sum has come, and how large it can be.
use Rattle.std.proofs.Common.{◌+◌, ◌-◌, ◌*◌, ◌^◌, ◌≤◌, unsigned_abs}
use Rattle.block_list.specs.Sums.{HasCome}
use Rattle.block_list.proofs.crossing.first_below.Given as goal

abbrev pub invariant-loop-at : goal.invariant-loop-at
invariant-loop-at g l =
    HasCome g.W.Weigh.weight l.items l.fn.start.index l.end l.fn.start.before l.at.index l.at.before
    × (unsigned_abs l.at.before ≤ unsigned_abs l.fn.start.before + (l.at.index - l.fn.start.index) * 2 ^ 40)

abbrev pub decreases-loop-at : goal.decreases-loop-at
decreases-loop-at g l = l.end - l.at.index
