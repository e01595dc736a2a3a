-- A piece for each row of the sheets of accounts and of a voucher.
use Rattle.std.specs.Prelude.{ℕ, List, filter}
use Rattle.std.specs.List.{flat_map}
use Rattle.stock_nums.specs.declared.entry.Row.{Row}
use Rattle.stock_nums.specs.declared.head.Head.{Head}
use Rattle.stock_model.specs.declared.ledger_lines.Balance.{Balance}
use Rattle.stock_model.specs.declared.queries.Format.{Format}
use Rattle.stock_model.specs.declared.queries.Format.TheVariants.{Json, Csv}
use Rattle.stock_model.specs.declared.sheet_rows.VoucherRow.{VoucherRow}
use Rattle.stock_model.specs.LedgerSheets.{is_by_record, voucher_rows}
use Rattle.valuation_report.specs.Pieces.{json_piece, csv_piece}
use Rattle.valuation_report.specs.SheetRows.{account_data, account_fields, voucher_data, voucher_fields}

abbrev pub account_piece : Format → Balance → List ℕ
account_piece Json row = json_piece (account_data row)
account_piece Csv row = csv_piece (account_fields row)

abbrev pub voucher_piece : Format → VoucherRow → List ℕ
voucher_piece Json row = json_piece (voucher_data row)
voucher_piece Csv row = csv_piece (voucher_fields row)

-- the lines of the general ledger that the movements of one record make
abbrev pub record_rows : ℕ → List Head → List Row → List VoucherRow
record_rows number heads rows = flat_map (voucher_rows heads) (filter (is_by_record number) rows)
