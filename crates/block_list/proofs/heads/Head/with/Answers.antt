-- The sums of both are those of all.
use Rattle.std.proofs.Common.{unsigned_abs, ap, arith, length-append}
use Rattle.std.proofs.lemmas.Int.{ints}
use Rattle.block_list.proofs.Totals.{total-append, abs-add, low-both}
use Rattle.block_list.proofs.heads.Head.with.Goals as goal

pub returns-clause-head : goal.returns-clause-head
returns-clause-head g c front head =
    let w = g.W.Weigh.weight in
    let b = c.args.block.now in
    let self = c.args.self.sums in
    let next = c.sums.result in
    let both = length-append front b in
    record {
      items = omega (arith, head.items, c.len.ensures.length, both);
      sum = omega (arith, ints, c.followed_by.ensures.sum, head.sum, c.sums.ensures.sum, total-append w front b);
      low = low-both w front b self.low self.sum next.low c.followed_by.result.low head.low head.sum c.sums.ensures.low c.followed_by.ensures.low.0 c.followed_by.ensures.low.1;
      small_sum = omega (arith, ap unsigned_abs c.followed_by.ensures.sum, abs-add self.sum next.sum, head.small_sum, c.sums.ensures.bound.0, both);
      small_low = omega (arith, c.followed_by.ensures.bound, head.small_sum, head.small_low, c.sums.ensures.bound.1, both);
    }
