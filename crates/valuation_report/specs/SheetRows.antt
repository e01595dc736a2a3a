-- A row of each sheet: as an object of JSON, its members in byte order of their names; and as the fields of a record of CSV.
use Rattle.std.specs.Prelude.{ℕ, List, [], ◌∷◌, codes, decimal}
use Rattle.std.specs.Fmt.{signed_decimal}
use Rattle.serde_json.specs.Data.{Data}
use Rattle.json_texts.specs.Members.{text, count, amount, object_of}
use Rattle.stock_nums.specs.MomentText.{moment_text}
use Rattle.stock_nums.specs.declared.place.Side.{Side}
use Rattle.stock_nums.specs.declared.place.Side.TheVariants.{Leaves, Enters}
use Rattle.stock_model.specs.declared.ledger_lines.Balance.{Balance}
use Rattle.stock_model.specs.declared.sheet_rows.BalanceRow.{BalanceRow}
use Rattle.stock_model.specs.declared.sheet_rows.LayerRow.{LayerRow}
use Rattle.stock_model.specs.declared.sheet_rows.LedgerRow.{LedgerRow}
use Rattle.stock_model.specs.declared.sheet_rows.VoucherRow.{VoucherRow}

-- the word for a side
abbrev pub side_word : Side → List ℕ
side_word Leaves = codes "out"
side_word Enters = codes "in"

abbrev pub balance_data : BalanceRow → Data
balance_data row =
    object_of
    (text (codes "item") row.item ∷ count (codes "qty") row.qty.0 ∷ text (codes "store") row.store ∷ amount (codes "value") row.value.0 ∷ [])

abbrev pub layer_data : LayerRow → Data
layer_data row =
    object_of
    (text (codes "item") row.item ∷ count (codes "line") row.line ∷ count (codes "qty") row.qty.0
    ∷ count (codes "record") row.voucher.0 ∷ text (codes "store") row.store ∷ amount (codes "value") row.value.0 ∷ [])

abbrev pub ledger_data : LedgerRow → Data
ledger_data row =
    object_of
    (text (codes "at") (moment_text row.at) ∷ text (codes "item") row.item ∷ count (codes "line") row.line
    ∷ count (codes "qty") row.qty.0 ∷ count (codes "record") row.voucher.0 ∷ text (codes "side") (side_word row.side)
    ∷ count (codes "stock") row.stock.0 ∷ text (codes "store") row.store ∷ amount (codes "value") row.value.0
    ∷ amount (codes "worth") row.worth.0 ∷ [])

abbrev pub account_data : Balance → Data
account_data row = object_of (count (codes "account") row.account.0 ∷ amount (codes "balance") row.balance.0 ∷ [])

abbrev pub voucher_data : VoucherRow → Data
voucher_data row =
    object_of
    (count (codes "account") row.account.0 ∷ amount (codes "credit") row.credit.0 ∷ amount (codes "debit") row.debit.0
    ∷ count (codes "line") row.line ∷ [])

abbrev pub balance_names : List (List ℕ)
balance_names = codes "item" ∷ codes "store" ∷ codes "qty" ∷ codes "value" ∷ []

abbrev pub balance_fields : BalanceRow → List (List ℕ)
balance_fields row = row.item ∷ row.store ∷ decimal row.qty.0 ∷ signed_decimal row.value.0 ∷ []

abbrev pub layer_names : List (List ℕ)
layer_names = codes "item" ∷ codes "store" ∷ codes "record" ∷ codes "line" ∷ codes "qty" ∷ codes "value" ∷ []

abbrev pub layer_fields : LayerRow → List (List ℕ)
layer_fields row = row.item ∷ row.store ∷ decimal row.voucher.0 ∷ decimal row.line ∷ decimal row.qty.0 ∷ signed_decimal row.value.0 ∷ []

abbrev pub ledger_names : List (List ℕ)
ledger_names =
    codes "item" ∷ codes "store" ∷ codes "at" ∷ codes "record" ∷ codes "line" ∷ codes "side" ∷ codes "qty" ∷ codes "value"
    ∷ codes "stock" ∷ codes "worth" ∷ []

abbrev pub ledger_fields : LedgerRow → List (List ℕ)
ledger_fields row =
    row.item ∷ row.store ∷ moment_text row.at ∷ decimal row.voucher.0 ∷ decimal row.line ∷ side_word row.side
    ∷ decimal row.qty.0 ∷ signed_decimal row.value.0 ∷ decimal row.stock.0 ∷ signed_decimal row.worth.0 ∷ []

abbrev pub account_names : List (List ℕ)
account_names = codes "account" ∷ codes "balance" ∷ []

abbrev pub account_fields : Balance → List (List ℕ)
account_fields row = decimal row.account.0 ∷ signed_decimal row.balance.0 ∷ []

abbrev pub voucher_names : List (List ℕ)
voucher_names = codes "line" ∷ codes "account" ∷ codes "debit" ∷ codes "credit" ∷ []

abbrev pub voucher_fields : VoucherRow → List (List ℕ)
voucher_fields row = decimal row.line ∷ decimal row.account.0 ∷ signed_decimal row.debit.0 ∷ signed_decimal row.credit.0 ∷ []
