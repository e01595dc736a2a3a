-- The pieces of the sheets of accounts and of a voucher are those of their reports.
use Rattle.std.proofs.Common.{◌≡◌, sym, ap, ◌∙◌}
use Rattle.std.specs.List.{flat_map}
use Rattle.std.proofs.lemmas.List.Folds.{flat_map-map}
use Rattle.stock_nums.specs.declared.numbers.RecordNo.{RecordNo}
use Rattle.stock_model.specs.declared.queries.Format.{Format}
use Rattle.stock_model.specs.declared.queries.Format.TheVariants.{Json, Csv}
use Rattle.stock_model.specs.declared.queries.Query.{Query}
use Rattle.stock_model.specs.declared.queries.Selected.{Selected}
use Rattle.stock_model.specs.declared.queries.Sheet.{Sheet}
use Rattle.stock_model.specs.declared.queries.Sheet.TheVariants.{Accounts, Voucher}
use Rattle.stock_model.specs.Accounts.{balances}
use Rattle.stock_model.specs.LedgerSheets.{voucher}
use Rattle.valuation_report.specs.AccountPieces.{account_piece, voucher_piece, record_rows}
use Rattle.valuation_report.specs.Pieces.{json_piece, csv_piece}
use Rattle.valuation_report.specs.SheetRows.{account_data, account_fields, voucher_data, voucher_fields}
use Rattle.valuation_report.specs.SheetPieces.{sheet_pieces}

-- the pieces of the accounts are those of their sheet
accounts-pieces : (format : Format) (query : Query) (chosen : Selected)
    → flat_map (account_piece format) (balances chosen.heads chosen.rows) ≡ sheet_pieces format Accounts query chosen
accounts-pieces Json query chosen = sym (flat_map-map json_piece account_data (balances chosen.heads chosen.rows))
accounts-pieces Csv query chosen = sym (flat_map-map csv_piece account_fields (balances chosen.heads chosen.rows))

-- and of a query that asks for them
pub of_accounts : (query : Query) (chosen : Selected) → query.sheet ≡ Accounts
    → flat_map (account_piece query.format) (balances chosen.heads chosen.rows) ≡ sheet_pieces query.format query.sheet query chosen
of_accounts query chosen is = accounts-pieces query.format query chosen ∙ ap (λ (sheet : Sheet). sheet_pieces query.format sheet query chosen) (sym is)

-- the pieces of a record's lines are those of the voucher sheet
voucher-pieces : (format : Format) (number : RecordNo) (query : Query) (chosen : Selected)
    → flat_map (voucher_piece format) (record_rows number.0 chosen.heads chosen.rows) ≡ sheet_pieces format (Voucher number) query chosen
unfolding voucher
voucher-pieces Json number query chosen = sym (flat_map-map json_piece voucher_data (record_rows number.0 chosen.heads chosen.rows))
voucher-pieces Csv number query chosen = sym (flat_map-map csv_piece voucher_fields (record_rows number.0 chosen.heads chosen.rows))

-- and of a query that asks for it
pub of_voucher : (number : RecordNo) (query : Query) (chosen : Selected) → query.sheet ≡ Voucher number
    → flat_map (voucher_piece query.format) (record_rows number.0 chosen.heads chosen.rows) ≡ sheet_pieces query.format query.sheet query chosen
of_voucher number query chosen is = voucher-pieces query.format number query chosen ∙ ap (λ (sheet : Sheet). sheet_pieces query.format sheet query chosen) (sym is)
