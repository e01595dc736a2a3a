-- The item stands in a group, whose blocks stand in the list.
use Rattle.std.proofs.Common.{◌*◌, ◌+◌, List, length, take, ap, ◌∙◌, subst, arith, length-append}
use Rattle.block_list.specs.Blocks.{joined, IsSpot}
use Rattle.block_list.specs.Heads.{group_at}
use Rattle.block_list.specs.declared.sums.TheConstants.{GROUP}
use Rattle.block_list.proofs.Grouped.{joined-groups_more, IsSpot-in_group, no_items}
use Rattle.block_list.proofs.groups.spot_of.Goals as goal

pub returns-then-at-size : goal.returns-then-at-size
returns-then-at-size g c =
    let p = c.loop-at.at.group in
    let i = c.spot_of-spot.result.block in
    let o = c.spot_of-spot.result.index in
    let spot = subst (λ (xs : List (List g.row.T.Denot)). IsSpot xs c.loop-at.at.index i o) c.group_of.ensures c.spot_of-spot.ensures in
    IsSpot-in_group c.args.blocks.now p c.loop-at.at.index i o c.args.index (p * GROUP + i) spot c.loop-at.invariant.1 (omega arith)

pub loop-at-preserved : goal.loop-at-preserved
loop-at-preserved g c =
    let bs = c.args.blocks.now in
    let p = c.loop-at.at.group in
    let more = ap length (joined-groups_more bs p) ∙ length-append (joined (take (GROUP * p) bs)) (joined (group_at bs p)) in
    (omega (arith, c.loop-at-test.true), omega (arith, more, (c.requires.heads.each p no_items c.loop-at-test.true).items, c.loop-at.invariant.1, c.if-at-size.false))
