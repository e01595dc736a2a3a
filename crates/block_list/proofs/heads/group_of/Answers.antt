-- The blocks stand side by side.
use Rattle.std.proofs.Common.{◌+◌, ◌-◌, arith}
use Rattle.block_list.proofs.Grouped.{group_at-run}
use Rattle.block_list.proofs.heads.group_of.Goals as goal

pub returns : goal.returns
returns g c =
    group_at-run c.args.blocks.now c.args.group c.min-start.result (c.min-start.result + c.min.result - c.min-start.result) c.min.result
    (omega (arith, c.saturating_mul.ensures, c.min-start.ensures)) (omega (arith, c.min.ensures)) (omega arith)
