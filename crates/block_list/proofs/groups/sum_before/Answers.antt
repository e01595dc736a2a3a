-- Each group that is passed adds its sum; the last one adds that of a front.
use Rattle.std.proofs.Common.{◌≡◌, ℕ, ◌+◌, ◌*◌, ℤ, ◌+ℤ◌, ◌++◌, unsigned_abs, List, length, take, drop, ap, ap₂, sym, ◌∙◌, arith, length-append, slice_index_or, to_z-of_z, w64}
use Rattle.std.proofs.Math.Seq.{take-append-add}
use Rattle.std.proofs.lemmas.List.{take-append-le}
use Rattle.block_list.specs.Blocks.{joined}
use Rattle.block_list.specs.Heads.{group_at}
use Rattle.block_list.specs.Sums.{total}
use Rattle.block_list.specs.declared.sums.TheConstants.{GROUP}
use Rattle.block_list.proofs.Grouped.{joined-groups_more, joined-around_group, group-fits, no_items}
use Rattle.block_list.proofs.Totals.{total-append, abs-add}
use Rattle.block_list.proofs.groups.sum_before.Goals as goal

pub end-requires-clause-size : goal.end-requires-clause-size
end-requires-clause-size g c =
    omega (arith, ap (λ (xs : List (List g.row.T.Denot)). length (joined xs)) c.group_of.ensures, (c.requires.heads.each c.loop-at.at.group no_items c.loop-at-test.true).items, c.if-at-head.true)

pub end-requires-clause-few : goal.end-requires-clause-few
end-requires-clause-few g c =
    omega (arith, ap (λ (xs : List (List g.row.T.Denot)). length (joined xs)) c.group_of.ensures, group-fits c.args.blocks.now c.loop-at.at.group, c.requires.few)

pub returns-then-at-head : goal.returns-then-at-head
returns-then-at-head g c =
    let w = g.W.Weigh.weight in
    let bs = c.args.blocks.now in
    let p = c.loop-at.at.group in
    let o = c.loop-at.at.left in
    let front = joined (take (GROUP * p) bs) in
    let own = joined (group_at bs p) in
    let rest = joined (drop GROUP (drop (GROUP * p) bs)) in
    let size = (c.requires.heads.each p no_items c.loop-at-test.true).items in
    let passed : take c.args.index (joined bs) ≡ front ++ take o own =
    ap₂ take c.loop-at.invariant.1 (joined-around_group bs p) ∙ take-append-add front (own ++ rest) o ∙ ap (λ xs. front ++ xs) (take-append-le o own rest (omega (arith, size, c.if-at-head.true))) in
    to_z-of_z {w = w64} {z = c.end.result} (record { sfits = omega (arith, c.end.ensures.bound) }) ∙ c.end.ensures.sum
    ∙ ap₂ (λ (s : ℤ) (xs : List (List g.row.T.Denot)). s +ℤ total w (take o (joined xs))) c.loop-at.invariant.2 c.group_of.ensures ∙ sym (ap (total w) passed ∙ total-append w front (take o own))

pub loop-at-preserved : goal.loop-at-preserved
loop-at-preserved g c =
    let w = g.W.Weigh.weight in
    let bs = c.args.blocks.now in
    let p = c.loop-at.at.group in
    let front = joined (take (GROUP * p) bs) in
    let own = joined (group_at bs p) in
    let head = c.requires.heads.each p no_items c.loop-at-test.true in
    let next = c.past-at.ensures.group in
    let more = ap (λ (n : ℕ). joined (take (GROUP * n) bs)) next ∙ joined-groups_more bs p in
    let lengths : length (joined (take (GROUP * c.past-at.result.group) bs)) ≡ length front + length own = ap length more ∙ length-append front own in
    let sums = c.past-at.ensures.sum in (
      omega (arith, next, c.loop-at-test.true),
      omega (arith, lengths, c.loop-at.invariant.1, head.items, c.past-at.ensures.left, c.if-at-head.false),
      sums ∙ ap₂ (λ (s : ℤ) (t : ℤ). s +ℤ t) c.loop-at.invariant.2 head.sum ∙ sym (ap (total w) more ∙ total-append w front own),
      omega (arith, lengths, ap unsigned_abs sums, abs-add c.loop-at.at.sum (slice_index_or c.args.heads.now p no_items).sums.sum, c.loop-at.invariant.3, head.small_sum),
    )
