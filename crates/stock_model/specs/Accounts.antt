-- The accounts sheet: the balance of each account that has a line.
use Rattle.std.specs.Prelude.{ℕ, List, [], ◌∷◌, map, fold, if◌then◌else◌, nat_lt}
use Rattle.stock_nums.specs.declared.entry.Row.{Row}
use Rattle.stock_nums.specs.declared.head.Head.{Head}
use Rattle.stock_model.specs.declared.ledger_lines.Balance.{Balance}
use Rattle.stock_model.specs.declared.ledger_lines.GlLine.{GlLine}
use Rattle.stock_model.specs.LedgerLines.{all_lines, balance_on}

-- the accounts, ascending, with this one among them once
abbrev pub put_account : List ℕ → ℕ → List ℕ
put_account [] account = account ∷ []
put_account (a ∷ accounts) account =
    if nat_lt account a then account ∷ a ∷ accounts
    else (if nat_lt a account then a ∷ put_account accounts account else a ∷ accounts)

abbrev pub put_account_of : List ℕ → GlLine → List ℕ
put_account_of accounts line = put_account accounts line.account.0

-- each account with a line, once, ascending
abbrev pub accounts_of : List GlLine → List ℕ
accounts_of lines = fold put_account_of [] lines

abbrev pub account_row : List GlLine → ℕ → Balance
account_row lines account = record { account = record { 0 = account }; balance = record { 0 = balance_on lines account } }

abbrev pub balances_of : List GlLine → List Balance
balances_of lines = map (account_row lines) (accounts_of lines)

-- the balances of the accounts that the movements have lines on
unfoldable pub balances : List Head → List Row → List Balance
balances heads rows = balances_of (all_lines heads rows)
