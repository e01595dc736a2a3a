-- The pieces of which the text of a report is put together: what stands before its rows, a piece for each row, and what stands after them.
use Rattle.std.specs.Prelude.{ℕ, ◌-◌, ◌==◌, List, [], ◌∷◌, ◌++◌, codes, decimal, length, take, slice_index, if◌then◌else◌}
use Rattle.csv.specs.Writing.{row_text, default_writer}
use Rattle.json.specs.Print.{escape}
use Rattle.serde_json.specs.Data.{Data}
use Rattle.serde_json.specs.Written.{compact_text}
use Rattle.stock_model.specs.declared.queries.Format.{Format}
use Rattle.stock_model.specs.declared.queries.Format.TheVariants.{Json, Csv}
use Rattle.stock_model.specs.declared.queries.Sheet.{Sheet}
use Rattle.stock_model.specs.declared.queries.Sheet.TheVariants.{Balance, Layers, Ledger, Accounts, Voucher}
use Rattle.stock_model.specs.declared.sheet_rows.BalanceRow.{BalanceRow}
use Rattle.stock_model.specs.declared.sheet_rows.LayerRow.{LayerRow}
use Rattle.stock_model.specs.declared.sheet_rows.LedgerRow.{LedgerRow}
use Rattle.valuation_report.specs.SheetRows.{balance_data, layer_data, ledger_data, balance_fields, layer_fields, ledger_fields, balance_names, layer_names, ledger_names, account_names, voucher_names}
use Rattle.valuation_report.specs.SheetTexts.{sheet_word}

-- a row of JSON, and the comma before the next one
abbrev pub json_piece : Data → List ℕ
json_piece value = compact_text value ++ 44 ∷ []

-- a record of CSV, as it stands in a text of JSON
abbrev pub csv_piece : List (List ℕ) → List ℕ
csv_piece fields = escape (row_text default_writer fields)

abbrev pub balance_piece : Format → BalanceRow → List ℕ
balance_piece Json row = json_piece (balance_data row)
balance_piece Csv row = csv_piece (balance_fields row)

abbrev pub layer_piece : Format → LayerRow → List ℕ
layer_piece Json row = json_piece (layer_data row)
layer_piece Csv row = csv_piece (layer_fields row)

abbrev pub ledger_piece : Format → LedgerRow → List ℕ
ledger_piece Json row = json_piece (ledger_data row)
ledger_piece Csv row = csv_piece (ledger_fields row)

-- the names of a sheet's columns
abbrev pub column_names : Sheet → List (List ℕ)
column_names Balance = balance_names
column_names Layers = layer_names
column_names Ledger = ledger_names
column_names Accounts = account_names
column_names (Voucher number) = voucher_names

-- the text of a report before its rows
abbrev pub opening : Format → Sheet → ℕ → List ℕ
opening Json sheet covered = codes "{\"covered\":" ++ (decimal covered ++ (codes ",\"report\":\"" ++ (sheet_word sheet ++ codes "\",\"rows\":[")))
opening Csv sheet covered = codes "{\"covered\":" ++ (decimal covered ++ (codes ",\"csv\":\"" ++ csv_piece (column_names sheet)))

-- the bytes without a comma at their end
abbrev pub without_comma : List ℕ → List ℕ
without_comma bytes = if slice_index bytes (length bytes - 1) == 44 then take (length bytes - 1) bytes else bytes

-- the text of a report with what stands after its rows
abbrev pub closed : Format → Sheet → List ℕ → List ℕ
closed Json sheet text = without_comma text ++ codes "],\"status\":\"ok\"}"
closed Csv sheet text = text ++ (codes "\",\"report\":\"" ++ (sheet_word sheet ++ codes "\",\"status\":\"ok\"}"))
