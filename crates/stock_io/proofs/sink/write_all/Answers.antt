use Rattle.stock_io.proofs.Writing.{Chained-step, more_written}
use Rattle.stock_io.proofs.sink.write_all.Goals as goal

pub returns-in_err-n-clause-frame : goal.returns-in_err-n-clause-frame
returns-in_err-n-clause-frame g c = Chained-step g.W.Sink.write_leaves _ _ _ c.loop-rest.invariant.frame c.write.ensures.frame

pub loop-rest-preserved : goal.loop-rest-preserved
loop-rest-preserved g c =
    more_written g.W.Sink.written g.W.Sink.faults g.W.Sink.write_leaves _ _ _ _ _ _ c.loop-rest.invariant c.in_ok-n.ensures.bytes c.in_ok-n.ensures.faults_kept
    c.write.ensures.frame
