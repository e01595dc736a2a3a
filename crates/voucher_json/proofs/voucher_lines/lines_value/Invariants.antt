use Rattle.std.proofs.Common.{◌≡◌, map, take}
use Rattle.serde_json.specs.View.{view}
use Rattle.voucher_json.specs.Tables.{line_data}
use Rattle.voucher_json.proofs.voucher_lines.lines_value.Given as goal

abbrev pub invariant-loop-line : goal.invariant-loop-line
invariant-loop-line g l = map view l.values.items ≡ map (line_data g.L.VoucherLine.table) (take l.line-index l.lines)
