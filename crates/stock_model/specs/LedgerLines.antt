-- The lines of the general ledger that a valued movement makes.
use Rattle.std.specs.Prelude.{ℕ, ◌-◌, ◌==◌, Bool, true, false, pos, Option, Some, None, List, [], ◌∷◌, ◌++◌, if◌then◌else◌, filter, sum_by, unsigned_abs, unwrap_or, ℤ, ◌-ℤ◌}
use Rattle.std.specs.Option.{option_map}
use Rattle.std.specs.List.{find, flat_map}
use Rattle.stock_nums.specs.declared.cause.Cause.{Cause}
use Rattle.stock_nums.specs.declared.cause.Cause.TheVariants.{Receipt, Issue, TransferLeaves, TransferEnters, CustomerReturn, SupplierReturn}
use Rattle.stock_nums.specs.declared.entry.Row.{Row}
use Rattle.stock_nums.specs.declared.head.Head.{Head}
use Rattle.stock_nums.specs.declared.numbers.AccountNo.{AccountNo}
use Rattle.stock_model.specs.declared.ledger_lines.GlLine.{GlLine}
use Rattle.stock_model.specs.declared.ledger_lines.TheConstants.{RECEIVED_NOT_BILLED, COST_OF_GOODS_SOLD, STOCK_ADJUSTMENT, LANDED_CHARGES}
use Rattle.stock_model.specs.Masters.{has_number}
use Rattle.stock_model.specs.Sums.{value_of}

-- an amount on the debit side of an account; no line where it is 0
abbrev pub debit : ℕ → ℕ → List GlLine
debit account amount = if amount == 0 then [] else record { account = record { 0 = account }; debit = record { 0 = pos amount }; credit = record { 0 = pos 0 } } ∷ []

-- an amount on the credit side
abbrev pub credit : ℕ → ℕ → List GlLine
credit account amount = if amount == 0 then [] else record { account = record { 0 = account }; debit = record { 0 = pos 0 }; credit = record { 0 = pos amount } } ∷ []

-- The lines of a movement with this cause, in and out of a warehouse with this account, with this value and share.
-- What is received, with its landed charges, is stock (IAS 2.10); what is sold is an expense, and what is used too (IAS
-- 2.34). What a return to suppliers costs more than its price is an expense, and what it costs less lowers one.
abbrev pub lines_by : Cause → ℕ → ℕ → ℕ → List GlLine
lines_by (Receipt amount) stock value share = debit stock value ++ (credit RECEIVED_NOT_BILLED (value - share) ++ credit LANDED_CHARGES share)
lines_by (Issue true) stock value share = credit stock value ++ debit COST_OF_GOODS_SOLD value
lines_by (Issue false) stock value share = credit stock value ++ debit STOCK_ADJUSTMENT value
lines_by TransferLeaves stock value share = credit stock value
lines_by TransferEnters stock value share = debit stock value
lines_by (CustomerReturn target issued) stock value share = debit stock value ++ credit COST_OF_GOODS_SOLD value
lines_by (SupplierReturn target amount received) stock value share =
    credit stock value ++ (debit RECEIVED_NOT_BILLED share ++ (debit STOCK_ADJUSTMENT (value - share) ++ credit STOCK_ADJUSTMENT (share - value)))

-- the share of a movement, which is never negative
abbrev pub share_of : Row → ℕ
share_of row = unsigned_abs row.worth.share.0

-- the lines of a valued movement whose warehouse has this account
abbrev pub gl_lines : ℕ → Row → List GlLine
gl_lines account row = lines_by row.entry.cause account (value_of row) (share_of row)

abbrev pub account_number : Option AccountNo → ℕ
account_number (Some account) = account.0
account_number None = 0

abbrev pub head_account : Head → ℕ
head_account head = account_number head.account

-- the account of the warehouse with this number, or 0
abbrev pub account_of : List Head → ℕ → ℕ
account_of heads n = unwrap_or (option_map head_account (find (has_number n) heads)) 0

-- the lines of a movement, whose warehouse is among the heads
abbrev pub row_lines : List Head → Row → List GlLine
row_lines heads row = gl_lines (account_of heads row.entry.store.0) row

-- the lines of all movements, in their order
abbrev pub all_lines : List Head → List Row → List GlLine
all_lines heads rows = flat_map (row_lines heads) rows

abbrev pub is_on : ℕ → GlLine → Bool
is_on account line = line.account.0 == account

abbrev pub debit_of : GlLine → ℕ
debit_of line = unsigned_abs line.debit.0

abbrev pub credit_of : GlLine → ℕ
credit_of line = unsigned_abs line.credit.0

-- the debits of an account, and its credits
abbrev pub debits : List GlLine → ℕ → ℕ
debits lines account = sum_by debit_of (filter (is_on account) lines)

abbrev pub credits : List GlLine → ℕ → ℕ
credits lines account = sum_by credit_of (filter (is_on account) lines)

-- the debits less the credits
abbrev pub balance_on : List GlLine → ℕ → ℤ
balance_on lines account = pos (debits lines account) -ℤ pos (credits lines account)
