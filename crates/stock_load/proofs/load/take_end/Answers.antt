-- The last lines were taken, and then the end.
use Rattle.std.proofs.Common.{List, ℕ, subst}
use Rattle.stock_batch.specs.Batches.{TakesMore}
use Rattle.stock_load.proofs.Loading.{LeadsBy-end}
use Rattle.stock_load.proofs.load.take_end.Goals as goal

pub returns : goal.returns
returns c =
    LeadsBy-end c.args.batch.now c.take_lines.new.batch c.end_input.new.self c.end_input.result
    (subst (λ (lines : List ℕ). TakesMore c.args.batch.now lines c.take_lines.new.batch) c.last_lines.ensures c.in_ok-take_lines.ensures)
    c.end_input.ensures.answered
