use Rattle.std.proofs.Common.{◌+◌, ◌≤◌, length}
use Rattle.parts_bench.proofs.framing.count_framed.Given as goal

abbrev pub invariant-loop-head : goal.invariant-loop-head
invariant-loop-head l = l.count + length l.rest ≤ length l.bytes

abbrev pub decreases-loop-head : goal.decreases-loop-head
decreases-loop-head l = length l.rest
