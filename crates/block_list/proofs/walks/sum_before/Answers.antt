-- Each block that is passed adds its sum; the last one adds that of a front.
use Rattle.std.proofs.Common.{◌≡◌, ℕ, ◌+◌, ℤ, ◌+ℤ◌, List, [], length, take, ap, ap₂, sym, ◌∙◌, arith, length-append, to_z-of_z, w64}
use Rattle.std.proofs.lemmas.List.{get_or_default}
use Rattle.block_list.specs.Blocks.{joined, block_at}
use Rattle.block_list.specs.Sums.{total}
use Rattle.block_list.proofs.Joined.{joined_more, joined-front}
use Rattle.block_list.proofs.Totals.{total-append}
use Rattle.block_list.proofs.walks.sum_before.Goals as goal

pub returns-then-at-len-clause-sum : goal.returns-then-at-len-clause-sum
returns-then-at-len-clause-sum g c =
    let w = g.W.Weigh.weight in
    let bs = c.args.blocks.now in
    let i = c.loop-at.at.block in
    let o = c.loop-at.at.left in
    let read : c.index-blocks-at.result ≡ block_at bs i = c.index-blocks-at.is ∙ get_or_default bs i c.index-blocks-at.result [] c.loop-at-test.true in
    let front = joined-front bs c.args.index i o c.loop-at-test.true (omega (arith, c.if-at-len.true, c.len.ensures.length, ap length read)) c.loop-at.invariant.1 in
    to_z-of_z {w = w64} {z = c.end.result.sum} (record { sfits = omega (arith, c.end.ensures.bound) }) ∙ c.end.ensures.sum
    ∙ ap₂ (λ (s : ℤ) (b : List g.row.T.Denot). s +ℤ total w (take o b)) c.loop-at.invariant.2 read ∙ sym (ap (total w) front ∙ total-append w (joined (take i bs)) (take o (block_at bs i)))

pub loop-at-preserved : goal.loop-at-preserved
loop-at-preserved g c =
    let w = g.W.Weigh.weight in
    let bs = c.args.blocks.now in
    let i = c.loop-at.at.block in
    let front = joined (take i bs) in
    let b = block_at bs i in
    let next = c.past-at.ensures.block in
    let read : c.index-blocks-at.result ≡ b = c.index-blocks-at.is ∙ get_or_default bs i c.index-blocks-at.result [] c.loop-at-test.true in
    let more = joined_more bs i c.loop-at-test.true in
    let lengths : length (joined (take c.past-at.result.block bs)) ≡ length front + length b =
    ap (λ (n : ℕ). length (joined (take n bs))) next ∙ ap length more ∙ length-append front b in (
      omega (arith, next, c.loop-at-test.true),
      omega (arith, lengths, c.loop-at.invariant.1, ap length read, c.past-at.ensures.left, c.if-at-len.false, c.len.ensures.length),
      c.past-at.ensures.sum ∙ ap₂ (λ (s : ℤ) (x : List g.row.T.Denot). s +ℤ total w x) c.loop-at.invariant.2 read
          ∙ sym (ap (λ (n : ℕ). total w (joined (take n bs))) next ∙ ap (total w) more ∙ total-append w front b),
      omega (arith, lengths, c.loop-at.invariant.3, ap length read, c.past-at.ensures.bound),
    )
