-- The ledger sheet, a row for each movement; and the voucher sheet, a row for each line of the general ledger of a record.
use Rattle.std.specs.Prelude.{ℕ, Bool, ◌==◌, pos, List, [], ◌∷◌, ◌++◌, map, filter}
use Rattle.std.specs.List.{flat_map}
use Rattle.stock_nums.specs.declared.entry.Key.{Key}
use Rattle.stock_nums.specs.declared.entry.Row.{Row}
use Rattle.stock_nums.specs.declared.head.Head.{Head}
use Rattle.stock_model.specs.declared.ledger_lines.GlLine.{GlLine}
use Rattle.stock_model.specs.declared.queries.Query.{Query}
use Rattle.stock_model.specs.declared.queries.Selected.{Selected}
use Rattle.stock_model.specs.declared.sheet_rows.LedgerRow.{LedgerRow}
use Rattle.stock_model.specs.declared.sheet_rows.VoucherRow.{VoucherRow}
use Rattle.stock_model.specs.LedgerLines.{row_lines}
use Rattle.stock_model.specs.Masters.{code_of}
use Rattle.stock_model.specs.Sheets.{is_asked_key, keys_of}
use Rattle.stock_model.specs.Sums.{is_of, value_of, stock_units, stock_value}

-- a movement as the sheet shows it, the last of these rows: what the warehouse holds of the item is what they say
abbrev pub ledger_row : List Head → Key → List Row → Row → LedgerRow
ledger_row heads key upto row =
    record {
      item = code_of heads key.item.0;
      store = code_of heads key.store.0;
      at = row.entry.place.moment;
      voucher = row.entry.place.voucher;
      line = row.entry.place.line;
      side = row.entry.place.side;
      qty = row.entry.qty;
      value = record { 0 = pos (value_of row) };
      stock = record { 0 = stock_units upto key };
      worth = record { 0 = pos (stock_value upto key) };
    }

-- each of the rows, which come after those
abbrev pub ledger_after : List Head → Key → List Row → List Row → List LedgerRow
ledger_after heads key before [] = []
ledger_after heads key before (row ∷ rows) = ledger_row heads key (before ++ row ∷ []) row ∷ ledger_after heads key (before ++ row ∷ []) rows

-- the movements of an item in a warehouse, in posting order
abbrev pub ledger_rows : List Head → List Row → Key → List LedgerRow
ledger_rows heads rows key = ledger_after heads key [] (filter (is_of key) rows)

-- the movements of each item in each warehouse that are asked for
unfoldable pub ledger : Query → Selected → List LedgerRow
ledger query selected =
    flat_map (ledger_rows selected.heads selected.rows) (filter (is_asked_key query selected.heads) (keys_of selected.rows))

-- the row's movement is one of this record
abbrev pub is_by_record : ℕ → Row → Bool
is_by_record voucher row = row.entry.place.voucher.0 == voucher

-- a line of the general ledger, which this line of the record makes
abbrev pub voucher_row : ℕ → GlLine → VoucherRow
voucher_row line made = record { line = line; account = made.account; debit = made.debit; credit = made.credit }

abbrev pub voucher_rows : List Head → Row → List VoucherRow
voucher_rows heads row = map (voucher_row row.entry.place.line) (row_lines heads row)

-- the lines of the general ledger that the record's movements make
unfoldable pub voucher : ℕ → Selected → List VoucherRow
voucher number selected = flat_map (voucher_rows selected.heads) (filter (is_by_record number) selected.rows)
