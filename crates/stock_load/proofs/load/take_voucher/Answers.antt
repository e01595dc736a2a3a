-- The voucher was taken, and what comes after it.
use Rattle.std.proofs.Common.{List, ℕ, subst, ◌∙◌}
use Rattle.std.proofs.lemmas.Result.{on_ok_weaker}
use Rattle.stock_batch.specs.Batches.{TakesMore}
use Rattle.load_script.specs.LoadScript.{voucher_line, work_line}
use Rattle.stock_load.proofs.Loading.{TakesMore-trans}
use Rattle.stock_load.proofs.load.take_voucher.Goals as goal

pub returns : goal.returns
returns c =
    let old = c.args.batch.now in
    let mid = c.take_lines.new.batch in
    let new = c.take_lines-2.new.batch in
    let voucher = subst (λ (lines : List ℕ). TakesMore old lines mid) (c.as_str.ensures.value ∙ c.in_ok-voucher.ensures) c.in_ok-take_lines.ensures in
    on_ok_weaker c.take_lines-2.result
    (λ work. TakesMore-trans old mid new (voucher_line c.args.number) (work_line c.args.number) voucher
    (subst (λ (lines : List ℕ). TakesMore mid lines new) c.work_line.ensures work))
    c.take_lines-2.ensures
