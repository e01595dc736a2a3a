-- Where the walk does not go on with a block, it does not begin with all of them.
use Rattle.std.proofs.Common.{◌+◌, List, ◌++◌, drop, sym, ap, ◌∙◌, arith}
use Rattle.stock_model.specs.declared.records.Record.{Record}
use Rattle.report_mirror.proofs.Walking.{joined, left_of_blocks}
use Rattle.report_mirror.proofs.record_walk.RecordWalk.behind_blocks.Goals as goal

pub returns-in_default : goal.returns-in_default
returns-in_default c rest same =
    let blocks = c.args.blocks.now in
    let i = c.loop-block.block-index in
    let behind : List Record = joined (drop (i + 1) blocks) ++ rest in
    c.in_default.ensures behind
    (left_of_blocks blocks i c.block-item.result c.loop-block.walk rest c.args.self (omega arith) c.block-item.is c.loop-block.invariant same
    ∙ ap (λ (z : List Record). z ++ behind) (sym c.as_slice.ensures))
