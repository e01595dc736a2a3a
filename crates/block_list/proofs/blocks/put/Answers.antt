-- The item comes to stand in its gap.
use Rattle.std.proofs.Common.{List, subst}
use Rattle.block_list.specs.Blocks.{IsGap}
use Rattle.block_list.proofs.blocks.put.Goals as goal

pub returns-clause-items : goal.returns-clause-items
returns-clause-items g c =
    let gap = subst (λ (xs : List (List g.row.T.Denot)). IsGap xs c.args.index c.gap_of-gap.result.block c.gap_of-gap.result.index) c.as_slice.ensures.value c.gap_of-gap.ensures in
    c.put_among.ensures.items c.args.index gap
