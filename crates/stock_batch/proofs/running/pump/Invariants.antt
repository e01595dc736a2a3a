-- What was taken and written so far. Each read takes some of what may still be taken.
use Rattle.std.proofs.Common.{◌-◌, ◌≤◌, ◌<◌, length}
use Rattle.stock_batch.specs.Ran.{UnderWay}
use Rattle.stock_batch.specs.Endings.{max_input}
use Rattle.stock_batch.proofs.running.pump.Given as goal

abbrev pub invariant-loop-taken : goal.invariant-loop-taken
invariant-loop-taken g l =
    UnderWay g.S.Source.left g.S.Source.taken g.S.Source.faults g.O.Sink.written g.O.Sink.faults l.fn.input l.input l.fn.output l.output l.fn.batch.book l.batch l.taken
    × (l.taken ≤ max_input) × (0 < length l.buffer)

abbrev pub decreases-loop-taken : goal.decreases-loop-taken
decreases-loop-taken g l = max_input - l.taken
