-- No balance of what is selected from a book is large: it is within what was received, and the prices of what went back.
use Rattle.std.proofs.Common.{◌≡◌, ℕ, ◌+◌, ◌-◌, ◌*◌, ◌≤◌, ◌==◌, pos, ◌-ℤ◌, Bool, true, false, List, [], ◌∷◌, sum_by, refl, sym, ap, ◌∙◌, subst, arith, unsigned_abs}
use Rattle.std.proofs.lemmas.Int.{ints}
use Rattle.std.proofs.lemmas.List.Sums.{sum_by-cons}
use Rattle.stock_nums.specs.declared.cause.Cause.{Cause}
use Rattle.stock_nums.specs.declared.cause.Cause.TheVariants.{Receipt, Issue, TransferLeaves, TransferEnters, CustomerReturn, SupplierReturn}
use Rattle.stock_nums.specs.declared.entry.Row.{Row}
use Rattle.stock_nums.specs.declared.head.Head.{Head}
use Rattle.stock_nums.specs.declared.limits.TheConstants.{MAX_ENTRIES, MAX_AMOUNT, MAX_VALUE}
use Rattle.stock_model.specs.declared.ledger_lines.TheConstants.{RECEIVED_NOT_BILLED, COST_OF_GOODS_SOLD, STOCK_ADJUSTMENT, LANDED_CHARGES, MAX_BALANCE}
use Rattle.stock_model.specs.declared.queries.Query.{Query}
use Rattle.stock_model.specs.declared.queries.Selected.{Selected}
use Rattle.stock_model.specs.Books.{lines_of, is_in_account}
use Rattle.stock_model.specs.Conservation.{is_receipt, is_sale, is_use, is_customer_return, is_supplier_return, has_cause, worth_by, received, sold, came_back, used, given_back}
use Rattle.stock_model.specs.LedgerLines.{share_of, all_lines, debits, credits, balance_on}
use Rattle.stock_model.specs.Reports.{IsSelected}
use Rattle.stock_model.specs.Sheets.{keys_of}
use Rattle.stock_model.specs.Sums.{value_of, stock_value}
use Rattle.stock_laws.proofs.AccountSums.{counted-none, other_debits, other_credits, row_debits, row_credits, debits-rows, credits-rows}
use Rattle.stock_laws.proofs.AccountStocks.{stocks-where}
use Rattle.stock_laws.proofs.Conservation.{in_stock-is}
use Rattle.stock_laws.proofs.Conserved.{Conserved, value_out-le_in}
use Rattle.stock_laws.proofs.LegalReplay.{IsLegalLine-journal}
use Rattle.stock_model.proofs.Pairwise.{Each}
use Rattle.stock_laws.proofs.Received.{purchases-le, received-le}
use Rattle.stock_laws.proofs.RowShares.{HasShareBy, HasShare, HasShare-first_rows, given_shares, given_shares-le}
use Rattle.stock_laws.proofs.Selections.{IsOfJournal-selected, Kept-chosen}
use Rattle.stock_laws.proofs.TestedSums.{counted, counted-le, tested-cons, tested-le}
use Rattle.stock_laws.proofs.Totals.{entering-all, leaving-all, arrived-le, came_back-le}

-- whether the account is that of the cost of goods sold
abbrev is_cost : ℕ → Bool
is_cost account = COST_OF_GOODS_SOLD == account

-- what is counted of a sum
counted-sum : (b : Bool) (m n : ℕ) → counted b (m + n) ≡ counted b m + counted b n
counted-sum true m n = refl
counted-sum false m n = refl

-- what a cause puts on the debit side but for stock is the cost of a sale on its account, and no more than the value of
-- what is used, or the value and the price of what goes back
debits-least : (c : Cause) (account value share : ℕ) → counted (is_cost account) (counted (is_sale c) value) ≤ other_debits c account value share
debits-least (Receipt amount) account value share = omega (arith, counted-none (is_cost account))
debits-least (Issue true) account value share = omega arith
debits-least (Issue false) account value share = omega (arith, counted-none (is_cost account))
debits-least TransferLeaves account value share = omega (arith, counted-none (is_cost account))
debits-least TransferEnters account value share = omega (arith, counted-none (is_cost account))
debits-least (CustomerReturn target issued) account value share = omega (arith, counted-none (is_cost account))
debits-least (SupplierReturn target amount received) account value share = omega (arith, counted-none (is_cost account))

debits-most : (c : Cause) (account value share : ℕ)
    → other_debits c account value share ≤ counted (is_cost account) (counted (is_sale c) value) + counted (is_use c) value + counted (is_supplier_return c) value + counted (is_supplier_return c) share
debits-most (Receipt amount) account value share = omega arith
debits-most (Issue true) account value share = omega arith
debits-most (Issue false) account value share = omega (arith, counted-le (STOCK_ADJUSTMENT == account) value)
debits-most TransferLeaves account value share = omega arith
debits-most TransferEnters account value share = omega arith
debits-most (CustomerReturn target issued) account value share = omega arith
debits-most (SupplierReturn target amount received) account value share =
    omega (arith, counted-le (RECEIVED_NOT_BILLED == account) share, counted-le (STOCK_ADJUSTMENT == account) (value - share))

-- and on the credit side the cost of what comes back, and no more than the value of a receipt, or the price of what goes back
credits-least : (c : Cause) (account value share : ℕ) → counted (is_cost account) (counted (is_customer_return c) value) ≤ other_credits c account value share
credits-least (Receipt amount) account value share = omega (arith, counted-none (is_cost account))
credits-least (Issue sold) account value share = omega (arith, counted-none (is_cost account))
credits-least TransferLeaves account value share = omega (arith, counted-none (is_cost account))
credits-least TransferEnters account value share = omega (arith, counted-none (is_cost account))
credits-least (CustomerReturn target issued) account value share = omega arith
credits-least (SupplierReturn target amount received) account value share = omega (arith, counted-none (is_cost account))

credits-most : (row : Row) (c : Cause) (account : ℕ) → HasShareBy row c
    → other_credits c account (value_of row) (share_of row) ≤ counted (is_cost account) (counted (is_customer_return c) (value_of row)) + counted (is_receipt c) (value_of row) + counted (is_supplier_return c) (share_of row)
credits-most row (Receipt amount) account within =
    omega (arith, counted-le (RECEIVED_NOT_BILLED == account) (value_of row - share_of row), counted-le (LANDED_CHARGES == account) (share_of row), within)
credits-most row (Issue sold) account within = omega arith
credits-most row TransferLeaves account within = omega arith
credits-most row TransferEnters account within = omega arith
credits-most row (CustomerReturn target issued) account within = omega arith
credits-most row (SupplierReturn target amount received) account within =
    omega (arith, counted-le (STOCK_ADJUSTMENT == account) (share_of row - value_of row))

-- what is counted of the worth of rows, with one more
counted-worth : (b : Bool) (kind : Cause → Bool) (row : Row) (rows : List Row) → counted b (worth_by kind (row ∷ rows)) ≡ counted b (counted (kind row.entry.cause) (value_of row)) + counted b (worth_by kind rows)
counted-worth b kind row rows =
    ap (counted b) (tested-cons value_of (has_cause kind) row rows) ∙ counted-sum b (counted (kind row.entry.cause) (value_of row)) (worth_by kind rows)

-- so the debits of an account but for stock are from the cost of sales on its account, to that and what was used or went back
debits-ge : (account : ℕ) (rows : List Row) → counted (is_cost account) (sold rows) ≤ sum_by (row_debits account) rows
debits-ge account [] = omega (arith, counted-none (is_cost account))
debits-ge account (row ∷ rows) =
    omega (
      arith,
      counted-worth (is_cost account) is_sale row rows,
      sum_by-cons (row_debits account) row rows,
      debits-least row.entry.cause account (value_of row) (share_of row),
      debits-ge account rows,
    )

debits-le : (account : ℕ) (rows : List Row) → sum_by (row_debits account) rows ≤ counted (is_cost account) (sold rows) + used rows + given_back rows + given_shares rows
debits-le account [] = omega arith
debits-le account (row ∷ rows) =
    omega (
      arith,
      counted-worth (is_cost account) is_sale row rows,
      tested-cons value_of (has_cause is_use) row rows,
      tested-cons value_of (has_cause is_supplier_return) row rows,
      tested-cons share_of (has_cause is_supplier_return) row rows,
      sum_by-cons (row_debits account) row rows,
      debits-most row.entry.cause account (value_of row) (share_of row),
      debits-le account rows,
    )

-- and the credits from what came back on its account, to that and what was received, with the prices of what went back
credits-ge : (account : ℕ) (rows : List Row) → counted (is_cost account) (came_back rows) ≤ sum_by (row_credits account) rows
credits-ge account [] = omega (arith, counted-none (is_cost account))
credits-ge account (row ∷ rows) =
    omega (
      arith,
      counted-worth (is_cost account) is_customer_return row rows,
      sum_by-cons (row_credits account) row rows,
      credits-least row.entry.cause account (value_of row) (share_of row),
      credits-ge account rows,
    )

credits-le : (account : ℕ) (rows : List Row) → Each HasShare rows → sum_by (row_credits account) rows ≤ counted (is_cost account) (came_back rows) + received rows + given_shares rows
credits-le account [] all = omega arith
credits-le account (row ∷ rows) all =
    omega (
      arith,
      counted-worth (is_cost account) is_customer_return row rows,
      tested-cons value_of (has_cause is_receipt) row rows,
      tested-cons share_of (has_cause is_supplier_return) row rows,
      sum_by-cons (row_credits account) row rows,
      credits-most row row.entry.cause account all.0,
      credits-le account rows all.1,
    )

-- less stays less, counted or not
counted-mono : (b : Bool) (m n : ℕ) → m ≤ n → counted b m ≤ counted b n
counted-mono true m n h = h
counted-mono false m n h = omega arith

-- and so it does where the greater is counted on its own side alone
counted-across : (b : Bool) (m n : ℕ) → m ≤ n → counted b n + m ≤ counted b m + n
counted-across true m n h = omega arith
counted-across false m n h = omega (arith, h)

-- no side is larger than the other by more than what was received and the prices of what went back
credits-near : (heads : List Head) (rows : List Row) (account : ℕ) → Conserved rows → Each HasShare rows
    → credits (all_lines heads rows) account ≤ debits (all_lines heads rows) account + received rows + given_shares rows
credits-near heads rows account conserved shares =
    omega (
      arith,
      debits-rows heads rows account,
      credits-rows heads rows account,
      conserved.keys (is_in_account heads account),
      debits-ge account rows,
      credits-le account rows shares,
      counted-mono (is_cost account) (came_back rows) (sold rows) (came_back-le rows conserved),
    )

debits-near : (heads : List Head) (rows : List Row) (account : ℕ) → Conserved rows
    → debits (all_lines heads rows) account ≤ credits (all_lines heads rows) account + received rows + given_shares rows
debits-near heads rows account conserved =
    let test = is_in_account heads account in
    omega (
      arith,
      debits-rows heads rows account,
      credits-rows heads rows account,
      debits-le account rows,
      credits-ge account rows,
      counted-across (is_cost account) (came_back rows) (sold rows) (came_back-le rows conserved),
      stocks-where rows test (value_out-le_in rows conserved.keys),
      tested-le (stock_value rows) test (keys_of rows),
      in_stock-is rows conserved,
      entering-all rows,
      leaving-all rows,
      arrived-le rows conserved,
    )

-- of two numbers that are near each other the difference is small
difference-small : (d c : ℕ) → d ≤ c + MAX_BALANCE → c ≤ d + MAX_BALANCE → unsigned_abs (pos d -ℤ pos c) ≤ MAX_BALANCE
difference-small d c h k = grind (arith, ints)

-- so no balance is large
pub chosen-small : (query : Query) (chosen : Selected) (account : ℕ) → IsSelected query chosen → unsigned_abs (balance_on (lines_of chosen) account) ≤ MAX_BALANCE
chosen-small query chosen account from =
    let of = IsOfJournal-selected query chosen from in
    let kept = Kept-chosen chosen of in
    let rows = chosen.rows in
    let shares : Each HasShare rows = subst (Each HasShare) (sym of.rows) (HasShare-first_rows of.journal of.count of.legal) in
    let got : received rows ≤ MAX_VALUE =
    omega (arith, received-le of.journal rows kept.priced, purchases-le rows, (IsLegalLine-journal of.journal of.legal).affordable, kept.few) in
    let given : given_shares rows ≤ MAX_ENTRIES * MAX_AMOUNT = omega (arith, given_shares-le rows shares, kept.few) in
    difference-small (debits (lines_of chosen) account) (credits (lines_of chosen) account)
    (omega (arith, debits-near chosen.heads rows account kept.conserved, got, given))
    (omega (arith, credits-near chosen.heads rows account kept.conserved shares, got, given))
