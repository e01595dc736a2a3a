-- The blocks so far are of the first movements.
use Rattle.std.proofs.Common.{◌≡◌, ◌≤◌, ◌-◌, map, take}
use Rattle.repost_spread.specs.Movements.{slots_of}
use Rattle.repost_build.specs.Rows.{slot_row}
use Rattle.repost_build.proofs.BlockRows.{joined}
use Rattle.repost_build.proofs.row_blocks.push_between.Given as goal

abbrev pub invariant-loop-index : goal.invariant-loop-index
invariant-loop-index l = record {
  within : l.index ≤ l.upto;
  rows : joined l.blocks ≡ map slot_row (take l.index (slots_of l.movements));
}

abbrev pub decreases-loop-index : goal.decreases-loop-index
decreases-loop-index l = l.upto - l.index
