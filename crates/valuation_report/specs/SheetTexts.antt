-- The text of a report: its sheet as rows of JSON, or as one text of CSV, with how many records it covers.
use Rattle.std.specs.Prelude.{ℕ, List, [], ◌∷◌, map, codes}
use Rattle.std.specs.List.{flat_map}
use Rattle.csv.specs.Writing.{row_text, default_writer}
use Rattle.json_texts.specs.Members.{text, count, rows, status, object_of}
use Rattle.serde_json.specs.Data.{Data}
use Rattle.serde_json.specs.Written.{compact_text}
use Rattle.serde_json.specs.View.{items_of}
use Rattle.stock_model.specs.declared.queries.Format.{Format}
use Rattle.stock_model.specs.declared.queries.Format.TheVariants.{Json, Csv}
use Rattle.stock_model.specs.declared.queries.Query.{Query}
use Rattle.stock_model.specs.declared.queries.Selected.{Selected}
use Rattle.stock_model.specs.declared.queries.Sheet.{Sheet}
use Rattle.stock_model.specs.declared.queries.Sheet.TheVariants.{Balance, Layers, Ledger, Accounts, Voucher}
use Rattle.stock_model.specs.Accounts.{balances}
use Rattle.stock_model.specs.Layers.{layers}
use Rattle.stock_model.specs.LedgerSheets.{ledger, voucher}
use Rattle.stock_model.specs.Sheets.{balance}
use Rattle.valuation_report.specs.SheetRows.{balance_data, layer_data, ledger_data, account_data, voucher_data, balance_names, balance_fields, layer_names, layer_fields, ledger_names, ledger_fields, account_names, account_fields, voucher_names, voucher_fields}

-- the word for a sheet
abbrev pub sheet_word : Sheet → List ℕ
sheet_word Balance = codes "balance"
sheet_word Layers = codes "layers"
sheet_word Ledger = codes "ledger"
sheet_word Accounts = codes "accounts"
sheet_word (Voucher number) = codes "voucher"

-- the rows of a sheet as values of JSON
abbrev pub rows_data : Sheet → Query → Selected → List Data
rows_data Balance query chosen = map balance_data (balance query chosen)
rows_data Layers query chosen = map layer_data (layers query chosen)
rows_data Ledger query chosen = map ledger_data (ledger query chosen)
rows_data Accounts query chosen = map account_data (balances chosen.heads chosen.rows)
rows_data (Voucher number) query chosen = map voucher_data (voucher number.0 chosen)

-- the names of a sheet's columns, and the fields of each of its rows
abbrev pub records_of : Sheet → Query → Selected → List (List (List ℕ))
records_of Balance query chosen = balance_names ∷ map balance_fields (balance query chosen)
records_of Layers query chosen = layer_names ∷ map layer_fields (layers query chosen)
records_of Ledger query chosen = ledger_names ∷ map ledger_fields (ledger query chosen)
records_of Accounts query chosen = account_names ∷ map account_fields (balances chosen.heads chosen.rows)
records_of (Voucher number) query chosen = voucher_names ∷ map voucher_fields (voucher number.0 chosen)

-- the text of CSV: the names of the columns, and then a record for each row, as the `csv` crate writes them
abbrev pub csv_text : Sheet → Query → Selected → List ℕ
csv_text sheet query chosen = flat_map (row_text default_writer) (records_of sheet query chosen)

-- the JSON value of a report in each format
abbrev pub report_by : Format → Query → Selected → Data
report_by Json query chosen =
    object_of
    (count (codes "covered") chosen.covered.0 ∷ text (codes "report") (sheet_word query.sheet)
    ∷ rows (items_of (rows_data query.sheet query chosen)) ∷ status (codes "ok") ∷ [])
report_by Csv query chosen =
    object_of
    (count (codes "covered") chosen.covered.0 ∷ text (codes "csv") (csv_text query.sheet query chosen)
    ∷ text (codes "report") (sheet_word query.sheet) ∷ status (codes "ok") ∷ [])

-- the text of a report
unfoldable pub report_text : Query → Selected → List ℕ
report_text query chosen = compact_text (report_by query.format query chosen)
