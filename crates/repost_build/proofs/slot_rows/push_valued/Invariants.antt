-- The rows so far are those of the first ones.
use Rattle.std.specs.Prelude.{◌≡◌, ◌++◌, take}
use Rattle.repost_build.specs.Rows.{valued_rows}
use Rattle.repost_build.proofs.slot_rows.push_valued.Given as goal

abbrev pub invariant-loop-slot : goal.invariant-loop-slot
invariant-loop-slot l = l.rows ≡ l.fn.rows ++ valued_rows (take l.slot-index l.slots)
