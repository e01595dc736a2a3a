-- The place is sought among the movements between two indexes.
use Rattle.std.proofs.Common.{◌≤◌, ◌-◌, length}
use Rattle.repost_spread.specs.Movements.{slots_of}
use Rattle.repost_build.proofs.row_blocks.count_until.Given as goal

abbrev pub invariant-loop-low : goal.invariant-loop-low
invariant-loop-low l = record {
  order : l.low ≤ l.high;
  within : l.high ≤ length (slots_of l.movements);
}

abbrev pub decreases-loop-low : goal.decreases-loop-low
decreases-loop-low l = l.high - l.low
