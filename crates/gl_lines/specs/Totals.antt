-- How totals are kept: for each account with a line its balance, by ascending accounts.
use Rattle.std.specs.Prelude.{ℕ, ℤ, pos, ◌≡◌, ◌≤◌, ◌^◌, List, map, unwrap_or, All}
use Rattle.std.specs.BTreeMap.{BTreeMap, get}
use Rattle.std.specs.declared.cmp.Ordering.{Ordering}
use Rattle.stock_nums.specs.contracts.numbers.AccountNoOrd.TheImpl as account_order
use Rattle.stock_nums.specs.declared.numbers.AccountNo.{AccountNo}
use Rattle.stock_model.specs.declared.ledger_lines.Balance.{Balance}
use Rattle.stock_model.specs.declared.ledger_lines.GlLine.{GlLine}
use Rattle.stock_model.specs.Accounts.{accounts_of}
use Rattle.stock_model.specs.LedgerLines.{balance_on, debit_of, credit_of}

-- the order of accounts
abbrev pub account_cmp : AccountNo → AccountNo → Ordering
account_cmp = (account_order.ghosts).cmp

-- what is kept for an account
abbrev pub kept_total : List GlLine → ℕ → AccountNo × ℤ
kept_total lines account = (record { 0 = account }, balance_on lines account)

-- both amounts of a line are those of 64 bits
abbrev pub IsSmallLine : GlLine → Type 0
IsSmallLine line = (debit_of line ≤ 2 ^ 63) × (credit_of line ≤ 2 ^ 63)

-- the map has the balances of all accounts with a line, and no line is too large
pub record AreTotals (by_account : BTreeMap AccountNo ℤ) (lines : List GlLine) : Type 0 where
  pub entries : by_account.entries ≡ map (kept_total lines) (accounts_of lines)
  pub small : All IsSmallLine lines

-- the total of an account, 0 where it has no line
abbrev pub total_on : BTreeMap AccountNo ℤ → AccountNo → ℤ
total_on by_account account = unwrap_or (get account_cmp by_account account) (pos 0)

-- what is kept for an account, as its balance
abbrev pub entry_balance : AccountNo × ℤ → Balance
entry_balance entry = record { account = entry.0; balance = record { 0 = entry.1 } }
