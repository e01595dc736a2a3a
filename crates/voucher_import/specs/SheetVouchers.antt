-- What the rows of a voucher say.
use Rattle.std.specs.Prelude.{◌≡◌, List, [], get_or, Some, IsTrue, pos, ⊤}
use Rattle.std.specs.List.{AllZip}
use Rattle.std.specs.Str.Parse.{digits_value}
use Rattle.stock_nums.specs.MomentText.{SpellsMoment}
use Rattle.stock_nums.specs.declared.moment.Moment.{Moment}
use Rattle.stock_model.specs.Limits.{is_within_limits}
use Rattle.stock_model.specs.declared.vouchers.What.{What}
use Rattle.stock_model.specs.declared.vouchers.What.TheVariants as what
use Rattle.stock_model.specs.declared.vouchers.ReceiptLine.{ReceiptLine}
use Rattle.stock_model.specs.declared.vouchers.IssueLine.{IssueLine}
use Rattle.stock_model.specs.declared.vouchers.TransferLine.{TransferLine}
use Rattle.voucher_import.specs.Kinds.{kind_of, issue_kind}
use Rattle.voucher_import.specs.Rows.{Row, do_of, at_of, item_of, store_of, to_of, qty_of, amount_of}
use Rattle.voucher_import.specs.declared.kinds.SheetKind.{SheetKind}
use Rattle.voucher_import.specs.declared.kinds.SheetKind.TheVariants as kind
use Rattle.voucher_import.specs.declared.sheet.SheetVoucher.{SheetVoucher}
use Rattle.voucher_import.specs.declared.sheet.SheetVoucher.TheVariants.{Post, Count}
use Rattle.voucher_import.specs.declared.sheet.CountLine.{CountLine}

-- the line that a row of a receipt says
pub record IsReceiptLine (row : Row) (line : ReceiptLine) : Type 0 where
  pub item : line.item ≡ item_of row
  pub store : line.store ≡ store_of row
  pub qty : line.qty.0 ≡ digits_value 10 (qty_of row)
  pub amount : line.amount.0 ≡ pos (digits_value 10 (amount_of row))

-- the line that a row of an issue says
pub record IsIssueLine (row : Row) (line : IssueLine) : Type 0 where
  pub item : line.item ≡ item_of row
  pub store : line.store ≡ store_of row
  pub qty : line.qty.0 ≡ digits_value 10 (qty_of row)

-- the line that a row of a transfer says: goods go from the warehouse in `store` to that in `to`
pub record IsTransferLine (row : Row) (line : TransferLine) : Type 0 where
  pub item : line.item ≡ item_of row
  pub from : line.from ≡ store_of row
  pub to : line.to ≡ to_of row
  pub qty : line.qty.0 ≡ digits_value 10 (qty_of row)

-- the line that a row of a count says
pub record IsCountLine (row : Row) (line : CountLine) : Type 0 where
  pub item : line.item ≡ item_of row
  pub store : line.store ≡ store_of row
  pub qty : line.qty.0 ≡ digits_value 10 (qty_of row)

-- the rows are of a voucher of this kind at this moment, by the first of them
pub record IsDated (rows : List Row) (of_kind : SheetKind) (moment : Moment) : Type 0 where
  pub word : kind_of (do_of (get_or rows 0 [])) ≡ Some of_kind
  pub at : SpellsMoment (at_of (get_or rows 0 [])) moment

-- what these rows say is to be posted
abbrev pub IsPost : List Row → What → Type 0
IsPost rows (what.Receipt at lines) = IsDated rows kind.Receipt at × AllZip IsReceiptLine rows lines
IsPost rows (what.Issue at purpose lines) = IsDated rows (issue_kind purpose) at × AllZip IsIssueLine rows lines
IsPost rows (what.Transfer at lines) = IsDated rows kind.Transfer at × AllZip IsTransferLine rows lines
IsPost rows (what.Item code method) = ⊥
IsPost rows (what.Store code account) = ⊥
IsPost rows (what.CustomerReturn at lines) = ⊥
IsPost rows (what.SupplierReturn at lines) = ⊥
IsPost rows (what.Landed charge basis targets) = ⊥
IsPost rows (what.Freeze until) = ⊥
IsPost rows (what.Cancel target) = ⊥

-- the voucher that these rows say
abbrev pub IsVoucher : List Row → SheetVoucher → Type 0
IsVoucher rows (Post posted) = IsPost rows posted
IsVoucher rows (Count sheet) = IsDated rows kind.Count sheet.at × AllZip IsCountLine rows sheet.lines

-- what is to be posted is within the limits of a record
abbrev pub IsWithinLimits : SheetVoucher → Type 0
IsWithinLimits (Post posted) = IsTrue (is_within_limits posted)
IsWithinLimits (Count sheet) = ⊤
