-- Nothing was taken and nothing written yet.
use Rattle.std.proofs.Common.{refl}
use Rattle.stock_batch.proofs.Batches.{StandsFor-start}
use Rattle.stock_batch.proofs.batch.Batch.new.Goals as goal

pub returns-clause-stands : goal.returns-clause-stands
returns-clause-stands g c = StandsFor-start c.args.book _ refl c.requires c.new.ensures c.new-2.ensures.items
