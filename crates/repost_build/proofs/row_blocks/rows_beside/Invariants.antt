-- The blocks so far are of the first movements.
use Rattle.std.proofs.Common.{◌≡◌, ◌≤◌, length, map, take}
use Rattle.repost_spread.specs.Movements.{slots_of}
use Rattle.repost_build.specs.Rows.{slot_row}
use Rattle.repost_build.proofs.BlockRows.{joined}
use Rattle.repost_build.proofs.row_blocks.rows_beside.Given as goal

abbrev pub invariant-loop-block : goal.invariant-loop-block
invariant-loop-block l = record {
  within : l.made ≤ length (slots_of l.movements);
  rows : joined l.blocks ≡ map slot_row (take l.made (slots_of l.movements));
}
