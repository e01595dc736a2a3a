-- The rows so far are those of the first ones.
use Rattle.std.specs.Prelude.{◌≡◌, ◌++◌, map, take}
use Rattle.repost_build.specs.Rows.{slot_row}
use Rattle.repost_build.proofs.slot_rows.push_rows.Given as goal

abbrev pub invariant-loop-slot : goal.invariant-loop-slot
invariant-loop-slot l = l.rows ≡ l.fn.rows ++ map slot_row (take l.slot-index l.slots)
