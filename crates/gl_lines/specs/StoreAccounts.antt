-- How the accounts of warehouses are kept.
use Rattle.std.specs.Prelude.{ℕ, ◌≡◌, List}
use Rattle.std.specs.Option.{option_map}
use Rattle.std.specs.List.{find}
use Rattle.std.specs.BTreeMap.{BTreeMap, get}
use Rattle.std.specs.declared.cmp.Ordering.{Ordering}
use Rattle.stock_nums.specs.contracts.numbers.RecordNoOrd.TheImpl as number_order
use Rattle.stock_nums.specs.declared.head.Head.{Head}
use Rattle.stock_nums.specs.declared.numbers.AccountNo.{AccountNo}
use Rattle.stock_nums.specs.declared.numbers.RecordNo.{RecordNo}
use Rattle.stock_model.specs.LedgerLines.{head_account}
use Rattle.stock_model.specs.Masters.{has_number}

-- the order of records' numbers
abbrev pub number_cmp : RecordNo → RecordNo → Ordering
number_cmp = (number_order.ghosts).cmp

-- the account of a head, 0 where it has none
abbrev pub account_no : Head → AccountNo
account_no head = record { 0 = head_account head }

-- the map has the account of the first head with each number
abbrev pub AreAccountsOf : BTreeMap RecordNo AccountNo → List Head → Type 0
AreAccountsOf by_number heads = (n : ℕ) → get number_cmp by_number (record { 0 = n }) ≡ option_map account_no (find (has_number n) heads)
