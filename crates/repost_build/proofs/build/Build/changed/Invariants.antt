-- The rows so far are those of the first movements.
use Rattle.std.specs.Prelude.{◌≡◌, ◌≤◌, ◌-◌, length, take}
use Rattle.repost_build.specs.Readings.{slots_in}
use Rattle.repost_build.specs.Rows.{valued_rows}
use Rattle.repost_build.proofs.build.Build.changed.Given as goal

abbrev pub invariant-loop-index : goal.invariant-loop-index
invariant-loop-index g l = record {
  within : l.index ≤ length (slots_in l.self);
  rows : l.rows ≡ valued_rows (take l.index (slots_in l.self));
}

abbrev pub decreases-loop-index : goal.decreases-loop-index
decreases-loop-index g l = length (slots_in l.self) - l.index
