use Rattle.std.proofs.Common.{length}
use Rattle.stock_io.proofs.Writing.{HasWritten}
use Rattle.stock_io.proofs.sink.write_all.Given as goal

abbrev pub invariant-loop-rest : goal.invariant-loop-rest
invariant-loop-rest g l = HasWritten g.W.Sink.written g.W.Sink.faults g.W.Sink.write_leaves l.initial.sink l.sink l.bytes l.rest

abbrev pub decreases-loop-rest : goal.decreases-loop-rest
decreases-loop-rest g l = length l.rest
