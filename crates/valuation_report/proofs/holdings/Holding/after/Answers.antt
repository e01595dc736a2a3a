-- One more movement fits, and is taken into account.
use Rattle.std.proofs.Common.{◌∙◌}
use Rattle.valuation_report.proofs.RunningHoldings.{room_for, held_with}
use Rattle.valuation_report.proofs.holdings.Holding.after.Goals as goal

pub add-requires : goal.add-requires
add-requires c =
    room_for c.args.rows.now c.loop-row.row-index c.row-item.result c.loop-row.holding c.requires c.loop-row-test.true c.row-item.is c.loop-row.invariant

pub loop-row-preserved : goal.loop-row-preserved
loop-row-preserved c =
    c.add.ensures
    ∙ held_with c.args.rows.now c.loop-row.row-index c.row-item.result c.loop-row.holding c.requires c.loop-row-test.true c.row-item.is c.loop-row.invariant
