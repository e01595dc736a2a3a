-- The opening, then one voucher after another, then the end.
use Rattle.std.proofs.Common.{◌≡◌, ◌++◌, ℕ, sym, subst, arith}
use Rattle.repost_worker.specs.Paces.{Pace, first_pace}
use Rattle.stock_batch.specs.Batches.{HasTaken}
use Rattle.load_script.specs.LoadScript.{opening_lines, voucher_lines}
use Rattle.stock_load.specs.Loads.{Leads}
use Rattle.stock_load.proofs.Loading.{HasTaken-none, HasTaken-more, Leads-all}
use Rattle.stock_load.proofs.load.answer_script.Goals as goal

pub loop-done-init : goal.loop-done-init
loop-done-init c = HasTaken-none c.in_ok-batch.batch c.args.count c.in_ok-batch.ensures

pub loop-done-preserved : goal.loop-done-preserved
loop-done-preserved c =
    HasTaken-more c.loop-done.batch c.take_voucher.new.batch c.args.count c.loop-done.done c.in_ok-take_voucher.ensures c.loop-done.invariant

pub returns : goal.returns
returns c =
    let count = c.args.count in
    let all : c.loop-done.done ≡ count = omega (arith, c.loop-done-test.false, c.loop-done.auto.done-end) in
    let taken = subst (λ (done : ℕ). HasTaken first_pace c.loop-done.batch (opening_lines count ++ voucher_lines done)) all c.loop-done.invariant in
    subst (λ (last : Pace). Leads count last) (sym c.into_book.ensures)
    (Leads-all c.take_end.new.batch.book count (c.in_ok-take_end.ensures (opening_lines count ++ voucher_lines count) taken))
