-- The rows so far are those of the movements from the index on.
use Rattle.std.proofs.Common.{◌≡◌, ◌≤◌, ◌-◌, map, take, drop}
use Rattle.repost_spread.specs.Movements.{slots_of}
use Rattle.repost_build.specs.Rows.{slot_row}
use Rattle.repost_build.proofs.row_blocks.block_of.Given as goal

abbrev pub invariant-loop-index : goal.invariant-loop-index
invariant-loop-index l = record {
  begun : l.from ≤ l.index;
  within : l.index ≤ l.upto;
  same : l.rows ≡ map slot_row (take (l.index - l.from) (drop l.from (slots_of l.movements)));
}

abbrev pub decreases-loop-index : goal.decreases-loop-index
decreases-loop-index l = l.upto - l.index
