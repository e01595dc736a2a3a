-- A line is counted once, and the rest stays to be counted.
use Rattle.std.proofs.Common.{◌<◌, length, arith}
use Rattle.stock_model.specs.VoucherLines.{lines_of}
use Rattle.voucher_kinds.proofs.UnitsNamed.{units_named-drop, room_at-kept}
use Rattle.voucher_kinds.proofs.returned_units.add_units.Goals as goal

pub add_units_at-requires-clause-fits : goal.add_units_at-requires-clause-fits
add_units_at-requires-clause-fits c target =
    let lines = lines_of c.args.what.now in
    let i = c.loop-index.index in
    let within : i < length lines = omega (arith, c.line_count-index-end.ensures) in
    omega (arith, c.loop-index.invariant.0 target, units_named-drop lines i target within, c.requires.fits target)

pub add_units_at-requires-clause-room : goal.add_units_at-requires-clause-room
add_units_at-requires-clause-room c = room_at-kept c.args.sums.now c.loop-index.sums (lines_of c.args.what.now) c.loop-index.index c.loop-index.invariant.1 (c.requires.room c.loop-index.index)

pub loop-index-preserved : goal.loop-index-preserved
loop-index-preserved c =
    let lines = lines_of c.args.what.now in
    let i = c.loop-index.index in
    let within : i < length lines = omega (arith, c.line_count-index-end.ensures) in (
      λ target. omega (arith, c.loop-index.invariant.0 target, units_named-drop lines i target within, c.add_units_at.ensures.added target),
      λ other room. c.add_units_at.ensures.kept other (c.loop-index.invariant.1 other room),
    )
