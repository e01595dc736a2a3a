-- The lines before the vouchers were taken.
use Rattle.std.proofs.Common.{List, [], ℕ, subst, ◌∙◌}
use Rattle.repost_worker.specs.Paces.{Pace}
use Rattle.stock_batch.specs.Batches.{StandsFor, TakesMore}
use Rattle.stock_load.proofs.Loading.{HasTaken-opening}
use Rattle.stock_load.proofs.load.opened.Goals as goal

pub returns : goal.returns
returns c =
    let start = c.new-batch.result in
    let heads = c.take_lines.new.batch in
    let new = c.take_lines-2.new.batch in
    HasTaken-opening start heads new c.args.count
    (subst (λ (first : Pace). StandsFor first start [] []) c.start.ensures c.new-batch.ensures.stands)
    (subst (λ (lines : List ℕ). TakesMore start lines heads) c.head_lines.ensures c.in_ok-take_lines.ensures)
    (subst (λ (lines : List ℕ). TakesMore heads lines new) (c.as_str.ensures.value ∙ c.in_ok-receipt.ensures) c.in_ok-take_lines-2.ensures)
