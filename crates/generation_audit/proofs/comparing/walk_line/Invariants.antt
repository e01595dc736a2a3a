-- What is stored of the movements so far is right, and these are its rows.
use Rattle.std.proofs.Common.{◌≡◌, take}
use Rattle.stock_model.specs.Replay.{rows_of}
use Rattle.generation_audit.specs.RightRows.{AreRight}
use Rattle.generation_audit.proofs.comparing.walk_line.Given as goal

abbrev pub invariant-loop-entry : goal.invariant-loop-entry
invariant-loop-entry l = record {
  rows : l.before ≡ rows_of l.records (take l.entry-index l.line);
  right : AreRight l.records l.worths (take l.entry-index l.line);
}
