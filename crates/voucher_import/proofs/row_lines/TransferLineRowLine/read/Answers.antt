-- A transfer has a code in `to`.
use Rattle.std.proofs.Common.{◌≡◌, ℕ, inr, refl}
use Rattle.std.specs.Prelude.{⊤}
use Rattle.std.specs.Str.Parse.{digits_value}
use Rattle.std.proofs.lemmas.Result.{err_from_is_err_and}
use Rattle.csv.specs.Records.{fields_of}
use Rattle.voucher_import.specs.SheetVouchers.{IsTransferLine}
use Rattle.voucher_import.proofs.Faults.{price_right, price_wrong, qty_right, qty_wrong, to_right}
use Rattle.voucher_import.proofs.row_lines.TransferLineRowLine.read.Goals as goal

pub returns-in_err-qty : goal.returns-in_err-qty
returns-in_err-qty c of_kind is word before =
    let p = err_from_is_err_and c.from_residual-in_err-qty.result c.from_residual-in_err-qty.ensures.1 in
    rw (p.1, p.2) (qty_wrong (λ (n : ℕ). n ≡ digits_value 10 c.field-4.result.now) (IsTransferLine (fields_of c.args.row.now)) before (fields_of c.args.row.now) of_kind _ _ is word (rw c.field.ensures at c.in_ok-item.ensures.0) (rw c.field-2.ensures at c.in_ok-from.ensures.0) (rw c.field-3.ensures at c.in_ok-to.ensures.0) c.field-4.ensures c.in_err-qty.ensures.outcome)

pub returns-in_err-check_empty : goal.returns-in_err-check_empty
returns-in_err-check_empty c of_kind is word before =
    let p = err_from_is_err_and c.from_residual-in_err-check_empty.result c.from_residual-in_err-check_empty.ensures.1 in
    rw (p.1, p.2) (price_wrong (λ (n : Unit {0}). ⊤) (IsTransferLine (fields_of c.args.row.now)) before (fields_of c.args.row.now) of_kind _ _ is word (rw c.field.ensures at c.in_ok-item.ensures.0) (rw c.field-2.ensures at c.in_ok-from.ensures.0) (rw c.field-3.ensures at c.in_ok-to.ensures.0) (rw c.field-4.ensures at c.in_ok-qty.ensures.outcome.0) c.field-5.ensures c.in_err-check_empty.ensures)

pub returns : goal.returns
returns c of_kind is word before =
    let row = fields_of c.args.row.now in
    let item = rw c.field.ensures at c.in_ok-item.ensures in
    let store = rw c.field-2.ensures at c.in_ok-from.ensures in
    let to = rw c.field-3.ensures at c.in_ok-to.ensures in
    let qty = rw c.field-4.ensures at c.in_ok-qty.ensures.outcome in
    let price = rw c.field-5.ensures at c.in_ok-check_empty.ensures.0 in (
      inr (λ n. n item.0, inr (λ n. n store.0, inr (to_right before row of_kind is word to.0, inr (qty_right before row of_kind is word qty.0, inr (price_right before row of_kind is word price, refl))))),
      record { item = item.1; from = store.1; to = to.1; qty = qty.1 },
    )
