-- What holds of what a report is made from: the ledger keeps the stock, and all of it can be shown.
use Rattle.std.specs.Prelude.{ℕ, pos, ◌≡◌, ◌+◌, ◌<◌, ◌≤◌, ◌==◌, ℤ, ◌+ℤ◌, Bool, true, ◌&&◌, List, AllPairs, filter, fold, sum_by, unsigned_abs, int_le, nat_le, length}
use Rattle.std.specs.List.{list_all}
use Rattle.stock_nums.specs.Codes.{is_code}
use Rattle.stock_nums.specs.declared.cause.Cause.{Cause}
use Rattle.stock_nums.specs.declared.cause.Cause.TheVariants.{Receipt}
use Rattle.stock_nums.specs.declared.entry.Row.{Row}
use Rattle.stock_nums.specs.declared.entry.Key.{Key}
use Rattle.stock_nums.specs.declared.head.Head.{Head}
use Rattle.stock_nums.specs.declared.limits.TheConstants.{LEAST_ACCOUNT, MAX_ENTRIES, MAX_VALUE}
use Rattle.stock_model.specs.declared.ledger_lines.Balance.{Balance}
use Rattle.stock_model.specs.declared.ledger_lines.GlLine.{GlLine}
use Rattle.stock_model.specs.declared.ledger_lines.TheConstants.{MAX_BALANCE}
use Rattle.stock_model.specs.declared.queries.Selected.{Selected}
use Rattle.stock_model.specs.declared.sheet_rows.VoucherRow.{VoucherRow}
use Rattle.stock_model.specs.Accounts.{balances}
use Rattle.stock_model.specs.Bounds.{has_value_in_range, AreBounded}
use Rattle.stock_model.specs.Layers.{layer_rows, shown_value}
use Rattle.stock_model.specs.LedgerLines.{share_of, account_of, all_lines, debits, credits, balance_on}
use Rattle.stock_model.specs.LedgerSheets.{voucher}
use Rattle.stock_model.specs.Sheets.{keys_of}
use Rattle.stock_model.specs.Sums.{value_of, stock_value}

-- the lines of the general ledger of what was selected
abbrev pub lines_of : Selected → List GlLine
lines_of chosen = all_lines chosen.heads chosen.rows

-- the item is in a warehouse with this account
abbrev pub is_in_account : List Head → ℕ → Key → Bool
is_in_account heads account key = account_of heads key.store.0 == account

-- what all items are worth together in the warehouses with this account
abbrev pub worth_in : Selected → ℕ → ℕ
worth_in chosen account = sum_by (stock_value chosen.rows) (filter (is_in_account chosen.heads account) (keys_of chosen.rows))

abbrev pub add_balance : ℤ → Balance → ℤ
add_balance sum row = sum +ℤ row.balance.0

-- all balances together
abbrev pub sum_of_balances : List Balance → ℤ
sum_of_balances rows = fold add_balance (pos 0) rows

abbrev pub debit_shown : VoucherRow → ℕ
debit_shown row = unsigned_abs row.debit.0

abbrev pub credit_shown : VoucherRow → ℕ
credit_shown row = unsigned_abs row.credit.0

-- the accounts keep the stock that was selected
pub record KeepsStock (chosen : Selected) : Type 0 where
  -- the balance of a warehouse's account is what all items are worth in the warehouses that have it
  pub stock : (account : ℕ) → LEAST_ACCOUNT ≤ account → debits (lines_of chosen) account ≡ credits (lines_of chosen) account + worth_in chosen account
  -- what the layers sheet shows of an item in a warehouse is what it is worth there
  pub layers : (key : Key) → sum_by shown_value (layer_rows chosen.heads chosen.rows key) ≡ stock_value chosen.rows key
  -- all balances sum to nothing
  pub balanced : sum_of_balances (balances chosen.heads chosen.rows) ≡ pos 0
  -- and so do the lines of each record
  pub vouchers : (number : ℕ) → sum_by debit_shown (voucher number chosen) ≡ sum_by credit_shown (voucher number chosen)

-- landed charges are within a receipt's value
abbrev pub holds_share : Cause → ℕ → ℕ → Bool
holds_share (Receipt amount) value share = nat_le share value
holds_share _ value share = true

-- the lines of the movement can be told: its value and its share are from 0 to the largest value
abbrev pub has_lines : Row → Bool
has_lines row =
    has_value_in_range row && (int_le (pos 0) row.worth.share.0 && (int_le row.worth.share.0 (pos MAX_VALUE) && holds_share row.entry.cause (value_of row) (share_of row)))

-- the balances of the accounts can be told: each movement's lines can, and no balance is too large
pub record HaveBalances (heads : List Head) (rows : List Row) : Type 0 where
  pub few : length rows ≤ MAX_ENTRIES
  pub lines : list_all has_lines rows ≡ true
  pub small : (account : ℕ) → unsigned_abs (balance_on (all_lines heads rows) account) ≤ MAX_BALANCE

-- the heads come in the order of their numbers, and each has a code of the stated shape
abbrev pub IsHeadBefore : Head → Head → Type 0
IsHeadBefore a b = a.number.0 < b.number.0

abbrev pub is_named : Head → Bool
is_named head = is_code head.code

pub record AreHeads (heads : List Head) : Type 0 where
  pub order : AllPairs IsHeadBefore heads
  pub named : list_all is_named heads ≡ true

-- every sheet of it can be written
pub record CanBeShown (chosen : Selected) : Type 0 where
  pub bounded : AreBounded chosen.rows
  pub posted : HaveBalances chosen.heads chosen.rows
  pub heads : AreHeads chosen.heads
