-- Memory was wanting before the first read.
use Rattle.repost_worker.specs.Paces.{first_pace}
use Rattle.stock_batch.proofs.Ends.{Ran-no_memory}
use Rattle.stock_batch.proofs.running.run.Goals as goal

pub returns-in_default : goal.returns-in_default
returns-in_default g c = (first_pace, Ran-no_memory g.S.Source.left g.S.Source.taken g.S.Source.faults g.O.Sink.written g.O.Sink.faults c.args.input.now c.args.output.now first_pace tt)
