-- The other groups are as they were.
use Rattle.std.proofs.Common.{◌/◌, List, length, ap, subst, arith}
use Rattle.block_list.specs.Blocks.{joined}
use Rattle.block_list.specs.Heads.{IsHead}
use Rattle.block_list.specs.declared.sums.TheConstants.{GROUP}
use Rattle.block_list.proofs.Grouped.{length-group_at, AreHeads-set}
use Rattle.block_list.proofs.heads.renew_at.Goals as goal

pub head_of-requires : goal.head_of-requires
head_of-requires g c = omega (arith, ap length c.group_of.ensures, length-group_at c.args.blocks.now (c.args.block / GROUP))

pub returns-clause-heads : goal.returns-clause-heads
returns-clause-heads g c =
    let w = g.W.Weigh.weight in
    let h = c.head_of.result in
    let own = subst (λ (xs : List (List g.row.T.Denot)). IsHead w h (joined xs)) c.group_of.ensures c.head_of.ensures in
    AreHeads-set w c.args.heads.now.items c.requires.0 c.args.blocks.now c.args.block c.requires.2.1.0 (c.args.block / GROUP) h c.requires.1 c.requires.2.1.1 c.requires.2.0
    (omega arith) (omega arith) own
