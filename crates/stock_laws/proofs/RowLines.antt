-- The debits of a movement's lines are their credits, but for the two sides of a transfer.
use Rattle.std.proofs.Common.{◌≡◌, ℕ, ◌+◌, ◌-◌, ◌≤◌, ◌==◌, pos, Bool, true, false, cond, ◌&&◌, List, [], ◌∷◌, ◌++◌, map, sum_by, refl, arith, int_le, nat_le}
use Rattle.std.specs.List.{flat_map}
use Rattle.std.proofs.lemmas.Bool.Decides.{nat_tests}
use Rattle.std.proofs.lemmas.List.Sums.{sum_by-append, sum_by-cons}
use Rattle.stock_nums.specs.declared.cause.Cause.{Cause}
use Rattle.stock_nums.specs.declared.cause.Cause.TheVariants.{Receipt, Issue, TransferLeaves, TransferEnters, CustomerReturn, SupplierReturn}
use Rattle.stock_nums.specs.declared.entry.Row.{Row}
use Rattle.stock_nums.specs.declared.head.Head.{Head}
use Rattle.stock_nums.specs.declared.limits.TheConstants.{MAX_VALUE}
use Rattle.stock_model.specs.declared.ledger_lines.GlLine.{GlLine}
use Rattle.stock_model.specs.declared.ledger_lines.TheConstants.{RECEIVED_NOT_BILLED, COST_OF_GOODS_SOLD, STOCK_ADJUSTMENT, LANDED_CHARGES}
use Rattle.stock_model.specs.declared.sheet_rows.VoucherRow.{VoucherRow}
use Rattle.stock_model.specs.Books.{debit_shown, credit_shown, holds_share, has_lines}
use Rattle.stock_model.specs.Bounds.{has_value_in_range}
use Rattle.stock_model.specs.Conservation.{is_sent, is_arrived, has_cause, worth_by}
use Rattle.stock_model.specs.LedgerLines.{debit, credit, lines_by, share_of, row_lines, all_lines, account_of, debit_of, credit_of}
use Rattle.stock_model.specs.LedgerSheets.{voucher_row, voucher_rows}
use Rattle.stock_model.specs.Sums.{value_of}
use Rattle.stock_model.proofs.Pairwise.{Each}
use Rattle.stock_laws.proofs.ReplayRows.{Passes}
use Rattle.stock_laws.proofs.TestedSums.{counted, tested-cons, both-second}

-- an amount is on its own side alone
none-added : (amount : ℕ) → (amount == 0) ≡ true → 0 ≡ amount
none-added amount h = grind (arith, nat_tests)

debit-debits : (account amount : ℕ) → sum_by debit_of (debit account amount) ≡ amount
debit-debits account amount =
    let step : (b : Bool) → (amount == 0) ≡ b → sum_by debit_of (cond b [] (record { account = record { 0 = account }; debit = record { 0 = pos amount }; credit = record { 0 = pos 0 } } ∷ [])) ≡ amount =
    λ b. elim b as (λ v. (amount == 0) ≡ v → sum_by debit_of (cond v [] (record { account = record { 0 = account }; debit = record { 0 = pos amount }; credit = record { 0 = pos 0 } } ∷ [])) ≡ amount) [
      | true ↦ λ is. none-added amount is
      | false ↦ λ is. omega arith
    ] in
    step (amount == 0) refl

debit-credits : (account amount : ℕ) → sum_by credit_of (debit account amount) ≡ 0
debit-credits account amount =
    elim (amount == 0) as (λ b. sum_by credit_of (cond b [] (record { account = record { 0 = account }; debit = record { 0 = pos amount }; credit = record { 0 = pos 0 } } ∷ [])) ≡ 0) [ true ↦ refl | false ↦ refl ]

credit-credits : (account amount : ℕ) → sum_by credit_of (credit account amount) ≡ amount
credit-credits account amount =
    let step : (b : Bool) → (amount == 0) ≡ b → sum_by credit_of (cond b [] (record { account = record { 0 = account }; debit = record { 0 = pos 0 }; credit = record { 0 = pos amount } } ∷ [])) ≡ amount =
    λ b. elim b as (λ v. (amount == 0) ≡ v → sum_by credit_of (cond v [] (record { account = record { 0 = account }; debit = record { 0 = pos 0 }; credit = record { 0 = pos amount } } ∷ [])) ≡ amount) [
      | true ↦ λ is. none-added amount is
      | false ↦ λ is. omega arith
    ] in
    step (amount == 0) refl

credit-debits : (account amount : ℕ) → sum_by debit_of (credit account amount) ≡ 0
credit-debits account amount =
    elim (amount == 0) as (λ b. sum_by debit_of (cond b [] (record { account = record { 0 = account }; debit = record { 0 = pos 0 }; credit = record { 0 = pos amount } } ∷ [])) ≡ 0) [ true ↦ refl | false ↦ refl ]

-- a debit of one account and a credit of another, of one amount
debit_credit-even : (a b amount : ℕ) → sum_by debit_of (debit a amount ++ credit b amount) ≡ sum_by credit_of (debit a amount ++ credit b amount)
debit_credit-even a b amount =
    omega (
      arith,
      sum_by-append debit_of (debit a amount) (credit b amount),
      sum_by-append credit_of (debit a amount) (credit b amount),
      debit-debits a amount,
      debit-credits a amount,
      credit-debits b amount,
      credit-credits b amount,
    )

credit_debit-even : (a b amount : ℕ) → sum_by debit_of (credit a amount ++ debit b amount) ≡ sum_by credit_of (credit a amount ++ debit b amount)
credit_debit-even a b amount =
    omega (
      arith,
      sum_by-append debit_of (credit a amount) (debit b amount),
      sum_by-append credit_of (credit a amount) (debit b amount),
      credit-debits a amount,
      credit-credits a amount,
      debit-debits b amount,
      debit-credits b amount,
    )

-- the lines of what is received, whose landed charges are within its value
received-even : (stock value share : ℕ) → share ≤ value
    → sum_by debit_of (debit stock value ++ (credit RECEIVED_NOT_BILLED (value - share) ++ credit LANDED_CHARGES share))
    ≡ sum_by credit_of (debit stock value ++ (credit RECEIVED_NOT_BILLED (value - share) ++ credit LANDED_CHARGES share))
received-even stock value share within =
    let price = credit RECEIVED_NOT_BILLED (value - share) in
    let landed = credit LANDED_CHARGES share in
    omega (
      arith,
      sum_by-append debit_of (debit stock value) (price ++ landed),
      sum_by-append debit_of price landed,
      sum_by-append credit_of (debit stock value) (price ++ landed),
      sum_by-append credit_of price landed,
      debit-debits stock value,
      debit-credits stock value,
      credit-debits RECEIVED_NOT_BILLED (value - share),
      credit-credits RECEIVED_NOT_BILLED (value - share),
      credit-debits LANDED_CHARGES share,
      credit-credits LANDED_CHARGES share,
      within,
    )

-- the lines of what goes back to a supplier
given_back-even : (stock value share : ℕ)
    → sum_by debit_of (credit stock value ++ (debit RECEIVED_NOT_BILLED share ++ (debit STOCK_ADJUSTMENT (value - share) ++ credit STOCK_ADJUSTMENT (share - value))))
    ≡ sum_by credit_of (credit stock value ++ (debit RECEIVED_NOT_BILLED share ++ (debit STOCK_ADJUSTMENT (value - share) ++ credit STOCK_ADJUSTMENT (share - value))))
given_back-even stock value share =
    let price = debit RECEIVED_NOT_BILLED share in
    let more = debit STOCK_ADJUSTMENT (value - share) in
    let less = credit STOCK_ADJUSTMENT (share - value) in
    omega (
      arith,
      sum_by-append debit_of (credit stock value) (price ++ (more ++ less)),
      sum_by-append debit_of price (more ++ less),
      sum_by-append debit_of more less,
      sum_by-append credit_of (credit stock value) (price ++ (more ++ less)),
      sum_by-append credit_of price (more ++ less),
      sum_by-append credit_of more less,
      credit-debits stock value,
      credit-credits stock value,
      debit-debits RECEIVED_NOT_BILLED share,
      debit-credits RECEIVED_NOT_BILLED share,
      debit-debits STOCK_ADJUSTMENT (value - share),
      debit-credits STOCK_ADJUSTMENT (value - share),
      credit-debits STOCK_ADJUSTMENT (share - value),
      credit-credits STOCK_ADJUSTMENT (share - value),
    )

-- what the test of a receipt's share means
within-value : (share value : ℕ) → nat_le share value ≡ true → share ≤ value
within-value share value h = grind (arith, nat_tests)

-- by each cause the debits are the credits, but that what leaves by a transfer is a credit alone, and what enters a debit
lines_by-even : (cause : Cause) (stock value share : ℕ) → holds_share cause value share ≡ true
    → sum_by debit_of (lines_by cause stock value share) + counted (is_sent cause) value ≡ sum_by credit_of (lines_by cause stock value share) + counted (is_arrived cause) value
lines_by-even (Receipt amount) stock value share holds = omega (arith, received-even stock value share (within-value share value holds))
lines_by-even (Issue true) stock value share holds = omega (arith, credit_debit-even stock COST_OF_GOODS_SOLD value)
lines_by-even (Issue false) stock value share holds = omega (arith, credit_debit-even stock STOCK_ADJUSTMENT value)
lines_by-even TransferLeaves stock value share holds = omega (arith, credit-debits stock value, credit-credits stock value)
lines_by-even TransferEnters stock value share holds = omega (arith, debit-debits stock value, debit-credits stock value)
lines_by-even (CustomerReturn target issued) stock value share holds = omega (arith, debit_credit-even stock COST_OF_GOODS_SOLD value)
lines_by-even (SupplierReturn target amount received) stock value share holds = omega (arith, given_back-even stock value share)

-- a receipt's landed charges are within its value where its lines can be told
has_lines-holds : (row : Row) → has_lines row ≡ true → holds_share row.entry.cause (value_of row) (share_of row) ≡ true
has_lines-holds row told =
    let low = int_le (pos 0) row.worth.share.0 in
    let high = int_le row.worth.share.0 (pos MAX_VALUE) in
    let holds = holds_share row.entry.cause (value_of row) (share_of row) in
    both-second high holds (both-second low (high && holds) (both-second (has_value_in_range row) (low && (high && holds)) told))

-- of any movements the debits and what left by transfers are the credits and what arrived by them
pub all_lines-even : (heads : List Head) (rows : List Row) → Each (Passes has_lines) rows
    → sum_by debit_of (all_lines heads rows) + worth_by is_sent rows ≡ sum_by credit_of (all_lines heads rows) + worth_by is_arrived rows
all_lines-even heads [] told = refl
all_lines-even heads (row ∷ rows) told =
    omega (
      arith,
      sum_by-append debit_of (row_lines heads row) (all_lines heads rows),
      sum_by-append credit_of (row_lines heads row) (all_lines heads rows),
      tested-cons value_of (has_cause is_sent) row rows,
      tested-cons value_of (has_cause is_arrived) row rows,
      lines_by-even row.entry.cause (account_of heads row.entry.store.0) (value_of row) (share_of row) (has_lines-holds row told.0),
      all_lines-even heads rows told.1,
    )

-- the amounts that the voucher sheet shows are those of the lines
shown-of : (f : VoucherRow → ℕ) (g : GlLine → ℕ) (n : ℕ) → ((made : GlLine) → f (voucher_row n made) ≡ g made) → (lines : List GlLine) → sum_by f (map (voucher_row n) lines) ≡ sum_by g lines
shown-of f g n same [] = refl
shown-of f g n same (made ∷ lines) =
    omega (arith, sum_by-cons f (voucher_row n made) (map (voucher_row n) lines), sum_by-cons g made lines, same made, shown-of f g n same lines)

pub debits-shown : (heads : List Head) (rows : List Row) → sum_by debit_shown (flat_map (voucher_rows heads) rows) ≡ sum_by debit_of (all_lines heads rows)
debits-shown heads [] = refl
debits-shown heads (row ∷ rows) =
    omega (
      arith,
      sum_by-append debit_shown (voucher_rows heads row) (flat_map (voucher_rows heads) rows),
      sum_by-append debit_of (row_lines heads row) (all_lines heads rows),
      shown-of debit_shown debit_of row.entry.place.line (λ made. refl) (row_lines heads row),
      debits-shown heads rows,
    )

pub credits-shown : (heads : List Head) (rows : List Row) → sum_by credit_shown (flat_map (voucher_rows heads) rows) ≡ sum_by credit_of (all_lines heads rows)
credits-shown heads [] = refl
credits-shown heads (row ∷ rows) =
    omega (
      arith,
      sum_by-append credit_shown (voucher_rows heads row) (flat_map (voucher_rows heads) rows),
      sum_by-append credit_of (row_lines heads row) (all_lines heads rows),
      shown-of credit_shown credit_of row.entry.place.line (λ made. refl) (row_lines heads row),
      credits-shown heads rows,
    )
