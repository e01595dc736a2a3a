-- The two sides of an index make it the point.
use Rattle.std.proofs.Common.{List, ap, ◌∙◌, subst}
use Rattle.block_list.specs.Blocks.{joined}
use Rattle.block_list.specs.Bounds.{HasSides}
use Rattle.block_list.specs.State.{ListState}
use Rattle.block_list.proofs.Sides.{point-from_sides}
use Rattle.block_list.proofs.list.BlockList.partition_point.Goals as goal

pub returns-clause-point : goal.returns-clause-point
returns-clause-point g c parted =
    let test = g.B.Bound.above c.args.bound.now in
    let at = c.partition_point.result in
    let whole = ap joined c.as_slice-2.ensures.value ∙ ap (λ (s : ListState g.row.T.Denot). s.items) c.self.view_is in
    point-from_sides test c.args.self.now.items at parted (subst (λ (xs : List g.row.T.Denot). HasSides test xs at) whole c.partition_point.ensures)
