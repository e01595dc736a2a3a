-- The movements so far were valued.
use Rattle.std.proofs.Common.{◌≡◌, take}
use Rattle.stock_model.specs.Replay.{rows_of}
use Rattle.cost_links.proofs.replay.rows_of.Given as goal

abbrev pub invariant-loop-entry : goal.invariant-loop-entry
invariant-loop-entry l = l.replayed ≡ rows_of l.records (take l.entry-index l.line)
