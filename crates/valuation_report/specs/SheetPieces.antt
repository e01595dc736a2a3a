-- The rows of a sheet as they are written: by groups, and all together.
use Rattle.std.specs.Prelude.{ℕ, Bool, true, false, List, [], map}
use Rattle.std.specs.List.{flat_map}
use Rattle.stock_nums.specs.declared.head.Head.{Head}
use Rattle.stock_model.specs.declared.queries.Format.{Format}
use Rattle.stock_model.specs.declared.queries.Format.TheVariants.{Json, Csv}
use Rattle.stock_model.specs.declared.queries.Query.{Query}
use Rattle.stock_model.specs.declared.queries.Selected.{Selected}
use Rattle.stock_model.specs.declared.queries.Sheet.{Sheet}
use Rattle.stock_model.specs.declared.queries.Sheet.TheVariants.{Balance, Layers, Ledger, Accounts, Voucher}
use Rattle.stock_model.specs.Accounts.{balances}
use Rattle.stock_model.specs.Layers.{layers}
use Rattle.stock_model.specs.LedgerSheets.{ledger, voucher}
use Rattle.stock_model.specs.Masters.{code_of}
use Rattle.stock_model.specs.Sheets.{balance}
use Rattle.valuation_report.specs.declared.grouping.Group.{Group}
use Rattle.valuation_report.specs.GroupRows.{own_layers, own_movements}
use Rattle.valuation_report.specs.Pieces.{json_piece, csv_piece, layer_piece, ledger_piece}
use Rattle.valuation_report.specs.SheetRows.{balance_fields, layer_fields, ledger_fields, account_fields, voucher_fields}
use Rattle.valuation_report.specs.SheetTexts.{rows_data}

-- the sheet has rows for the movements of each item in each warehouse
abbrev pub is_grouped : Sheet → Bool
is_grouped Balance = false
is_grouped Layers = true
is_grouped Ledger = true
is_grouped Accounts = false
is_grouped (Voucher number) = false

-- the rows of one item in one warehouse. The other sheets have none
abbrev pub group_pieces : Format → Sheet → List Head → Group → List ℕ
group_pieces format Balance heads group = []
group_pieces format Layers heads group =
    flat_map (layer_piece format) (own_layers (code_of heads group.key.item.0) (code_of heads group.key.store.0) group.rows)
group_pieces format Ledger heads group =
    flat_map (ledger_piece format) (own_movements (code_of heads group.key.item.0) (code_of heads group.key.store.0) group.rows)
group_pieces format Accounts heads group = []
group_pieces format (Voucher number) heads group = []

-- the fields of each row of a sheet
abbrev pub row_fields : Sheet → Query → Selected → List (List (List ℕ))
row_fields Balance query chosen = map balance_fields (balance query chosen)
row_fields Layers query chosen = map layer_fields (layers query chosen)
row_fields Ledger query chosen = map ledger_fields (ledger query chosen)
row_fields Accounts query chosen = map account_fields (balances chosen.heads chosen.rows)
row_fields (Voucher number) query chosen = map voucher_fields (voucher number.0 chosen)

-- all rows of a sheet
abbrev pub sheet_pieces : Format → Sheet → Query → Selected → List ℕ
sheet_pieces Json sheet query chosen = flat_map json_piece (rows_data sheet query chosen)
sheet_pieces Csv sheet query chosen = flat_map csv_piece (row_fields sheet query chosen)
