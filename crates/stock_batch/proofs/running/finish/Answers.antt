-- Memory or the output may end the run before its end.
use Rattle.std.proofs.Common.{sym, subst}
use Rattle.repost_worker.specs.Paces.{Pace}
use Rattle.stock_batch.specs.Ran.{Finishes}
use Rattle.stock_ends.specs.declared.end.End.TheVariants.{WriteFailed}
use Rattle.stock_batch.proofs.Ends.{Finishes-memory, Finishes-write}
use Rattle.stock_batch.proofs.running.finish.Goals as goal

pub returns-in_default-clause-finishes : goal.returns-in_default-clause-finishes
returns-in_default-clause-finishes g c = Finishes-memory g.O.Sink.written c.args.batch.now c.end_input.new.self.book c.args.output.now c.in_default.ensures.cut_short

pub returns-in_default-write_out-clause-finishes : goal.returns-in_default-write_out-clause-finishes
returns-in_default-write_out-clause-finishes g c =
    subst (λ (last : Pace). Finishes g.O.Sink.written c.args.batch.now last c.args.output.now c.write_out.new.output WriteFailed)
    (sym c.write_out.ensures.book)
    (Finishes-write g.O.Sink.written c.args.batch.now c.end_input.new.self c.args.output.now c.write_out.new.output c.in-Ok.ensures.answered c.in_default-write_out.ensures.front)
