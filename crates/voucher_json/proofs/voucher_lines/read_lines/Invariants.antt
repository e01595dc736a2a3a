-- Whatever the rest of the elements comes to, all of them come to it after the lines so far.
use Rattle.std.proofs.Common.{◌≡◌, ◌+◌, List, Result, length, drop}
use Rattle.serde_json.specs.View.{items_view}
use Rattle.stock_model.specs.declared.read_faults.ReadFault.{ReadFault}
use Rattle.voucher_json.specs.Walks.{Elements}
use Rattle.voucher_json.specs.Tables.{IsLine}
use Rattle.voucher_json.proofs.VoucherLines.{after}
use Rattle.voucher_json.proofs.voucher_lines.read_lines.Given as goal

abbrev pub invariant-loop-value : goal.invariant-loop-value
invariant-loop-value g l = record {
  each : length l.lines ≡ l.value-index;
  read : (end : Result (List g.row.L.Denot) ReadFault) → Elements (IsLine g.L.VoucherLine.table) l.list (l.value-index + 1) (items_view (drop l.value-index l.values)) end
      → Elements (IsLine g.L.VoucherLine.table) l.list 1 (items_view l.values) (after l.lines end);
}
