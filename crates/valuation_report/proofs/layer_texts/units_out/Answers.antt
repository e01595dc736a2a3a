-- The units of one more movement fit.
use Rattle.std.proofs.Common.{◌≤◌, length, take, arith}
use Rattle.std.proofs.lemmas.List.{length-take-le}
use Rattle.stock_nums.specs.declared.limits.TheConstants.{MAX_ENTRIES}
use Rattle.stock_model.specs.Sums.{units_of}
use Rattle.valuation_report.specs.Holdings.{row_leaves}
use Rattle.valuation_report.proofs.RunningHoldings.{units-fit}
use Rattle.valuation_report.proofs.layer_texts.units_out.Goals as goal

pub overflow_add-units : goal.overflow_add-units
overflow_add-units c =
    let front = take c.loop-row.row-index c.args.rows.now in
    let few : length front ≤ MAX_ENTRIES = omega (arith, length-take-le c.loop-row.row-index c.args.rows.now, c.requires.few) in
    let units : units_of c.row-item.result ≤ 1_000_000_000 = c.row-item.result.entry.quantity.1 in
    omega (arith, c.loop-row.invariant, units-fit row_leaves front few, units)
