-- The rows so far are those of the movements from the start on.
use Rattle.std.proofs.Common.{◌≡◌, ◌≤◌, ◌-◌, map, take, drop}
use Rattle.repost_spread.specs.Movements.{slots_of}
use Rattle.repost_build.specs.Rows.{slot_row}
use Rattle.repost_build.proofs.row_blocks.are_rows.Given as goal

abbrev pub invariant-loop-index : goal.invariant-loop-index
invariant-loop-index l = record {
  begun : l.start ≤ l.index;
  within : l.index ≤ l.end;
  same : take (l.index - l.start) l.rows ≡ map slot_row (take (l.index - l.start) (drop l.start (slots_of l.movements)));
}

abbrev pub decreases-loop-index : goal.decreases-loop-index
decreases-loop-index l = l.end - l.index
