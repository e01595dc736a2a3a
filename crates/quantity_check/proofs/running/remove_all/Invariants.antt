-- The rest taken out of the line leaves what all leave, and no room is lost.
use Rattle.std.proofs.Common.{◌≡◌, ◌≤◌, drop}
use Rattle.quantity_check.specs.ChangedLines.{line_without}
use Rattle.quantity_check.proofs.running.remove_all.Given as goal

abbrev pub invariant-loop-entry : goal.invariant-loop-entry
invariant-loop-entry l = record {
  left : line_without l.line.entries (drop l.entry-index l.gone) ≡ line_without l.initial.line.entries l.gone;
  room : l.initial.line.spare ≤ l.line.spare;
}
