-- The rows so far are those of the first movements.
use Rattle.std.proofs.Common.{◌≡◌, map, take}
use Rattle.repost_build.specs.Rows.{slot_row}
use Rattle.repost_build.proofs.slot_rows.is_run.Given as goal

abbrev pub invariant-loop-index : goal.invariant-loop-index
invariant-loop-index l = take l.index l.rows ≡ map slot_row (take l.index l.slots)
