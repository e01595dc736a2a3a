-- What the lines of movements put on an account: their value where it is the warehouse's, and what their causes say.
use Rattle.std.proofs.Common.{◌≡◌, ℕ, pos, ◌+◌, ◌-◌, ◌==◌, Bool, true, false, cond, ◌&&◌, not, List, [], ◌∷◌, ◌++◌, filter, sum_by, refl, sym, ap, ◌∙◌, arith}
use Rattle.std.proofs.lemmas.Bool.Decides.{nat_tests}
use Rattle.std.proofs.lemmas.List.Elements.{filter-append}
use Rattle.std.proofs.lemmas.List.Sums.{sum_by-append, sum_by-cons}
use Rattle.stock_nums.specs.Causes.{enters_by, is_entering}
use Rattle.stock_nums.specs.declared.cause.Cause.{Cause}
use Rattle.stock_nums.specs.declared.cause.Cause.TheVariants.{Receipt, Issue, TransferLeaves, TransferEnters, CustomerReturn, SupplierReturn}
use Rattle.stock_nums.specs.declared.entry.Row.{Row}
use Rattle.stock_nums.specs.declared.head.Head.{Head}
use Rattle.stock_model.specs.declared.ledger_lines.GlLine.{GlLine}
use Rattle.stock_model.specs.declared.ledger_lines.TheConstants.{RECEIVED_NOT_BILLED, COST_OF_GOODS_SOLD, STOCK_ADJUSTMENT, LANDED_CHARGES}
use Rattle.stock_model.specs.Books.{is_in_account}
use Rattle.stock_model.specs.Enough.{entry_key}
use Rattle.stock_model.specs.LedgerLines.{debit, credit, lines_by, share_of, account_of, row_lines, all_lines, is_on, debit_of, credit_of, debits, credits}
use Rattle.stock_model.specs.Sums.{value_of}
use Rattle.stock_laws.proofs.Conserved.{enters_where, leaves_where, key_in, key_out}
use Rattle.stock_laws.proofs.TestedSums.{counted, counted-fails, tested-cons}
use Rattle.stock_laws.proofs.Totals.{row-side, any-passes}

-- what a movement by this cause, with this value and share, puts on the debit side of an account, but for stock
abbrev pub other_debits : Cause → ℕ → ℕ → ℕ → ℕ
other_debits (Issue true) account value share = counted (COST_OF_GOODS_SOLD == account) value
other_debits (Issue false) account value share = counted (STOCK_ADJUSTMENT == account) value
other_debits (SupplierReturn target amount received) account value share =
    counted (RECEIVED_NOT_BILLED == account) share + counted (STOCK_ADJUSTMENT == account) (value - share)
other_debits _ account value share = 0

-- and on the credit side
abbrev pub other_credits : Cause → ℕ → ℕ → ℕ → ℕ
other_credits (Receipt amount) account value share = counted (RECEIVED_NOT_BILLED == account) (value - share) + counted (LANDED_CHARGES == account) share
other_credits (CustomerReturn target issued) account value share = counted (COST_OF_GOODS_SOLD == account) value
other_credits (SupplierReturn target amount received) account value share = counted (STOCK_ADJUSTMENT == account) (share - value)
other_credits _ account value share = 0

-- nothing adds nothing
pub counted-none : (b : Bool) → counted b 0 ≡ 0
counted-none true = refl
counted-none false = refl

-- the debits of some lines and of others, and their credits
debits-append : (xs ys : List GlLine) (account : ℕ) → debits (xs ++ ys) account ≡ debits xs account + debits ys account
debits-append xs ys account = ap (sum_by debit_of) (filter-append (is_on account) xs ys) ∙ sum_by-append debit_of (filter (is_on account) xs) (filter (is_on account) ys)

credits-append : (xs ys : List GlLine) (account : ℕ) → credits (xs ++ ys) account ≡ credits xs account + credits ys account
credits-append xs ys account = ap (sum_by credit_of) (filter-append (is_on account) xs ys) ∙ sum_by-append credit_of (filter (is_on account) xs) (filter (is_on account) ys)

-- a line that stands where there is an amount adds it to its account
amount-on : (f : GlLine → ℕ) (line : GlLine) (n account : ℕ) → (n ≡ 0 → f line ≡ 0) → sum_by f (filter (is_on account) (cond (n == 0) [] (line ∷ []))) ≡ counted (line.account.0 == account) (f line)
amount-on f line n account free =
    let step : (b : Bool) → (n == 0) ≡ b → sum_by f (filter (is_on account) (cond b [] (line ∷ []))) ≡ counted (line.account.0 == account) (f line) =
    λ b. elim b as (λ v. (n == 0) ≡ v → sum_by f (filter (is_on account) (cond v [] (line ∷ []))) ≡ counted (line.account.0 == account) (f line)) [
      | true ↦ λ is. let none : n ≡ 0 = grind (arith, nat_tests) in sym (ap (counted (line.account.0 == account)) (free none) ∙ counted-none (line.account.0 == account))
      | false ↦ λ is. omega (arith, tested-cons f (is_on account) line [])
    ] in
    step (n == 0) refl

-- an amount on the one side adds to that side of its account, and nothing to the other
debits-debit : (a n account : ℕ) → debits (debit a n) account ≡ counted (a == account) n
debits-debit a n account = amount-on debit_of (record { account = record { 0 = a }; debit = record { 0 = pos n }; credit = record { 0 = pos 0 } }) n account (λ none. none)

credits-debit : (a n account : ℕ) → credits (debit a n) account ≡ 0
credits-debit a n account =
    amount-on credit_of (record { account = record { 0 = a }; debit = record { 0 = pos n }; credit = record { 0 = pos 0 } }) n account (λ none. refl)
    ∙ counted-none (a == account)

debits-credit : (a n account : ℕ) → debits (credit a n) account ≡ 0
debits-credit a n account =
    amount-on debit_of (record { account = record { 0 = a }; debit = record { 0 = pos 0 }; credit = record { 0 = pos n } }) n account (λ none. refl)
    ∙ counted-none (a == account)

credits-credit : (a n account : ℕ) → credits (credit a n) account ≡ counted (a == account) n
credits-credit a n account = amount-on credit_of (record { account = record { 0 = a }; debit = record { 0 = pos 0 }; credit = record { 0 = pos n } }) n account (λ none. none)

-- the debits of a movement's lines are its value, where it enters a warehouse with the account, and the others
debits-by : (c : Cause) (stock account value share : ℕ) → debits (lines_by c stock value share) account ≡ counted ((stock == account) && enters_by c) value + other_debits c account value share
debits-by (Receipt amount) stock account value share =
    omega (
      arith,
      debits-append (debit stock value) (credit RECEIVED_NOT_BILLED (value - share) ++ credit LANDED_CHARGES share) account,
      debits-append (credit RECEIVED_NOT_BILLED (value - share)) (credit LANDED_CHARGES share) account,
      debits-debit stock value account,
      debits-credit RECEIVED_NOT_BILLED (value - share) account,
      debits-credit LANDED_CHARGES share account,
      any-passes (stock == account) value,
    )
debits-by (Issue true) stock account value share =
    omega (
      arith,
      debits-append (credit stock value) (debit COST_OF_GOODS_SOLD value) account,
      debits-credit stock value account,
      debits-debit COST_OF_GOODS_SOLD value account,
      counted-fails (stock == account) value,
    )
debits-by (Issue false) stock account value share =
    omega (
      arith,
      debits-append (credit stock value) (debit STOCK_ADJUSTMENT value) account,
      debits-credit stock value account,
      debits-debit STOCK_ADJUSTMENT value account,
      counted-fails (stock == account) value,
    )
debits-by TransferLeaves stock account value share = omega (arith, debits-credit stock value account, counted-fails (stock == account) value)
debits-by TransferEnters stock account value share = omega (arith, debits-debit stock value account, any-passes (stock == account) value)
debits-by (CustomerReturn target issued) stock account value share =
    omega (
      arith,
      debits-append (debit stock value) (credit COST_OF_GOODS_SOLD value) account,
      debits-debit stock value account,
      debits-credit COST_OF_GOODS_SOLD value account,
      any-passes (stock == account) value,
    )
debits-by (SupplierReturn target amount received) stock account value share =
    let differences = debit STOCK_ADJUSTMENT (value - share) ++ credit STOCK_ADJUSTMENT (share - value) in
    omega (
      arith,
      debits-append (credit stock value) (debit RECEIVED_NOT_BILLED share ++ differences) account,
      debits-append (debit RECEIVED_NOT_BILLED share) differences account,
      debits-append (debit STOCK_ADJUSTMENT (value - share)) (credit STOCK_ADJUSTMENT (share - value)) account,
      debits-credit stock value account,
      debits-debit RECEIVED_NOT_BILLED share account,
      debits-debit STOCK_ADJUSTMENT (value - share) account,
      debits-credit STOCK_ADJUSTMENT (share - value) account,
      counted-fails (stock == account) value,
    )

-- and the credits, where it leaves one
credits-by : (c : Cause) (stock account value share : ℕ) → credits (lines_by c stock value share) account ≡ counted ((stock == account) && not (enters_by c)) value + other_credits c account value share
credits-by (Receipt amount) stock account value share =
    omega (
      arith,
      credits-append (debit stock value) (credit RECEIVED_NOT_BILLED (value - share) ++ credit LANDED_CHARGES share) account,
      credits-append (credit RECEIVED_NOT_BILLED (value - share)) (credit LANDED_CHARGES share) account,
      credits-debit stock value account,
      credits-credit RECEIVED_NOT_BILLED (value - share) account,
      credits-credit LANDED_CHARGES share account,
      counted-fails (stock == account) value,
    )
credits-by (Issue true) stock account value share =
    omega (
      arith,
      credits-append (credit stock value) (debit COST_OF_GOODS_SOLD value) account,
      credits-credit stock value account,
      credits-debit COST_OF_GOODS_SOLD value account,
      any-passes (stock == account) value,
    )
credits-by (Issue false) stock account value share =
    omega (
      arith,
      credits-append (credit stock value) (debit STOCK_ADJUSTMENT value) account,
      credits-credit stock value account,
      credits-debit STOCK_ADJUSTMENT value account,
      any-passes (stock == account) value,
    )
credits-by TransferLeaves stock account value share = omega (arith, credits-credit stock value account, any-passes (stock == account) value)
credits-by TransferEnters stock account value share = omega (arith, credits-debit stock value account, counted-fails (stock == account) value)
credits-by (CustomerReturn target issued) stock account value share =
    omega (
      arith,
      credits-append (debit stock value) (credit COST_OF_GOODS_SOLD value) account,
      credits-debit stock value account,
      credits-credit COST_OF_GOODS_SOLD value account,
      counted-fails (stock == account) value,
    )
credits-by (SupplierReturn target amount received) stock account value share =
    let differences = debit STOCK_ADJUSTMENT (value - share) ++ credit STOCK_ADJUSTMENT (share - value) in
    omega (
      arith,
      credits-append (credit stock value) (debit RECEIVED_NOT_BILLED share ++ differences) account,
      credits-append (debit RECEIVED_NOT_BILLED share) differences account,
      credits-append (debit STOCK_ADJUSTMENT (value - share)) (credit STOCK_ADJUSTMENT (share - value)) account,
      credits-credit stock value account,
      credits-debit RECEIVED_NOT_BILLED share account,
      credits-debit STOCK_ADJUSTMENT (value - share) account,
      credits-credit STOCK_ADJUSTMENT (share - value) account,
      any-passes (stock == account) value,
    )

-- what a row puts on an account but for stock
abbrev pub row_debits : ℕ → Row → ℕ
row_debits account row = other_debits row.entry.cause account (value_of row) (share_of row)

abbrev pub row_credits : ℕ → Row → ℕ
row_credits account row = other_credits row.entry.cause account (value_of row) (share_of row)

-- the debits of an account are what entered the warehouses that have it, and the others
pub debits-rows : (heads : List Head) (rows : List Row) (account : ℕ) → debits (all_lines heads rows) account ≡ key_in (is_in_account heads account) rows + sum_by (row_debits account) rows
debits-rows heads [] account = refl
debits-rows heads (row ∷ rows) account =
    let stock = account_of heads row.entry.store.0 in
    let side : counted (is_in_account heads account (entry_key row.entry) && is_entering row.entry.place.side) (value_of row) ≡ counted ((stock == account) && enters_by row.entry.cause) (value_of row) =
    ap (λ (b : Bool). counted ((stock == account) && b) (value_of row)) (row-side row) in
    omega (
      arith,
      debits-append (row_lines heads row) (all_lines heads rows) account,
      debits-by row.entry.cause stock account (value_of row) (share_of row),
      tested-cons value_of (enters_where (is_in_account heads account)) row rows,
      side,
      sum_by-cons (row_debits account) row rows,
      debits-rows heads rows account,
    )

-- the credits are what left them, and the others
pub credits-rows : (heads : List Head) (rows : List Row) (account : ℕ) → credits (all_lines heads rows) account ≡ key_out (is_in_account heads account) rows + sum_by (row_credits account) rows
credits-rows heads [] account = refl
credits-rows heads (row ∷ rows) account =
    let stock = account_of heads row.entry.store.0 in
    let side : counted (is_in_account heads account (entry_key row.entry) && not (is_entering row.entry.place.side)) (value_of row) ≡ counted ((stock == account) && not (enters_by row.entry.cause)) (value_of row) =
    ap (λ (b : Bool). counted ((stock == account) && not b) (value_of row)) (row-side row) in
    omega (
      arith,
      credits-append (row_lines heads row) (all_lines heads rows) account,
      credits-by row.entry.cause stock account (value_of row) (share_of row),
      tested-cons value_of (leaves_where (is_in_account heads account)) row rows,
      side,
      sum_by-cons (row_credits account) row rows,
      credits-rows heads rows account,
    )
