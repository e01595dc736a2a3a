-- Memory or the output may end the run.
use Rattle.std.proofs.Common.{sym, subst}
use Rattle.repost_worker.specs.Paces.{Pace}
use Rattle.stock_batch.specs.Ran.{Stops}
use Rattle.stock_ends.specs.declared.end.End.TheVariants.{WriteFailed}
use Rattle.stock_batch.proofs.Ends.{Stops-memory, Stops-write}
use Rattle.stock_batch.proofs.running.step.Goals as goal

pub returns-in_default-clause-stops : goal.returns-in_default-clause-stops
returns-in_default-clause-stops g c = Stops-memory g.O.Sink.written c.args.batch.now c.feed.new.self.book c.args.piece.now c.args.output.now c.in_default.ensures.cut_short

pub returns-in_default-write_out-clause-stops : goal.returns-in_default-write_out-clause-stops
returns-in_default-write_out-clause-stops g c =
    subst (λ (last : Pace). Stops g.O.Sink.written c.args.batch.now last c.args.piece.now c.args.output.now c.write_out.new.output WriteFailed)
    (sym c.write_out.ensures.book)
    (Stops-write g.O.Sink.written c.args.batch.now c.feed.new.self c.args.piece.now c.args.output.now c.write_out.new.output c.in-Ok.ensures.goes_on c.in_default-write_out.ensures.front)
