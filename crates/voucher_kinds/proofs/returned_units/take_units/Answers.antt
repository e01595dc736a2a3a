-- What a line returns was counted, and is counted no more.
use Rattle.std.proofs.Common.{◌<◌, length, arith}
use Rattle.stock_model.specs.VoucherLines.{lines_of}
use Rattle.voucher_kinds.proofs.UnitsNamed.{units_named-drop}
use Rattle.voucher_kinds.proofs.returned_units.take_units.Goals as goal

pub take_units_at-requires : goal.take_units_at-requires
take_units_at-requires c target =
    let lines = lines_of c.args.what.now in
    let i = c.loop-index.index in
    let within : i < length lines = omega (arith, c.line_count-index-end.ensures) in
    omega (arith, c.loop-index.invariant.0 target, units_named-drop lines i target within, c.requires target)

pub loop-index-preserved : goal.loop-index-preserved
loop-index-preserved c =
    let lines = lines_of c.args.what.now in
    let i = c.loop-index.index in
    let within : i < length lines = omega (arith, c.line_count-index-end.ensures) in (
      λ target. omega (arith, c.loop-index.invariant.0 target, units_named-drop lines i target within, c.take_units_at.ensures.taken target),
      λ other room. c.take_units_at.ensures.kept other (c.loop-index.invariant.1 other room),
    )
