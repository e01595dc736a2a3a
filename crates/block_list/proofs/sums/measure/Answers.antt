-- Each item makes the sum and the least front one longer.
use Rattle.std.proofs.Common.{◌≡◌, ◌+◌, ℤ, ◌+ℤ◌, ◌≤ℤ◌, take, sym, ap, ◌∙◌, subst}
use Rattle.block_list.specs.Sums.{total}
use Rattle.block_list.proofs.Totals.{total_more, low-more}
use Rattle.block_list.proofs.sums.measure.Goals as goal

pub loop-item-preserved : goal.loop-item-preserved
loop-item-preserved g c =
    let w = g.W.Weigh.weight in
    let xs = c.args.items.now in
    let i = c.loop-item.item-index in
    let x = c.item-item.result in
    let more = total_more w xs i x c.loop-item-test.true c.item-item.is in
    let sum : c.with-found.result.sum ≡ total w (take (i + 1) xs) =
    c.with-found.ensures.sum ∙ ap (λ (s : ℤ). s +ℤ w x) c.loop-item.invariant.0 ∙ sym more in
    let bound = c.with-found.ensures.bound i c.loop-item.invariant.2 c.loop-item.invariant.3 in (
      sum,
      low-more w xs i c.loop-item.found.low c.with-found.result.low c.loop-item.invariant.1 c.with-found.ensures.low.0
          (subst (λ (s : ℤ). c.with-found.result.low ≤ℤ s) sum c.with-found.ensures.low.1),
      bound.0,
      bound.1,
    )
