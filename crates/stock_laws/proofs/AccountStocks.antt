-- The balance of a warehouse's account is what all items are worth in the warehouses that have it.
use Rattle.std.proofs.Common.{◌≡◌, ℕ, ◌+◌, ◌-◌, ◌≤◌, ◌==◌, Bool, true, false, cond, ◌&&◌, not, List, [], ◌∷◌, filter, sum_by, refl, sym, ap, ◌∙◌, arith}
use Rattle.std.specs.Prelude.{◌||◌}
use Rattle.std.proofs.Math.Bool.{and-true, and-false}
use Rattle.std.proofs.lemmas.Bool.{false≢true}
use Rattle.std.proofs.lemmas.Bool.Decides.{nat_tests}
use Rattle.std.proofs.lemmas.List.Kept.{AllPairs-filter}
use Rattle.std.proofs.lemmas.List.Sums.{sum_by-cons}
use Rattle.stock_nums.specs.Causes.{is_entering}
use Rattle.stock_nums.specs.declared.cause.Cause.{Cause}
use Rattle.stock_nums.specs.declared.cause.Cause.TheVariants.{Receipt, Issue, TransferLeaves, TransferEnters, CustomerReturn, SupplierReturn}
use Rattle.stock_nums.specs.declared.entry.Key.{Key}
use Rattle.stock_nums.specs.declared.entry.Row.{Row}
use Rattle.stock_nums.specs.declared.limits.TheConstants.{LEAST_ACCOUNT}
use Rattle.stock_model.specs.declared.ledger_lines.TheConstants.{RECEIVED_NOT_BILLED, COST_OF_GOODS_SOLD, STOCK_ADJUSTMENT, LANDED_CHARGES}
use Rattle.stock_model.specs.declared.queries.Query.{Query}
use Rattle.stock_model.specs.declared.queries.Selected.{Selected}
use Rattle.stock_model.specs.Books.{lines_of, is_in_account, worth_in}
use Rattle.stock_model.specs.Enough.{entry_key, is_same_key}
use Rattle.stock_model.specs.LedgerLines.{share_of, debits, credits}
use Rattle.stock_model.specs.Reports.{IsSelected}
use Rattle.stock_model.specs.Sheets.{IsKeyBefore, keys_of}
use Rattle.stock_model.specs.Sums.{row_entry, value_of, value_in, value_out, stock_value}
use Rattle.stock_laws.proofs.AccountSums.{other_debits, other_credits, row_debits, row_credits, debits-rows, credits-rows}
use Rattle.stock_laws.proofs.Conservation.{is_one_of, stocks, HasKeyOf, rows-keyed}
use Rattle.stock_laws.proofs.Conserved.{enters_where, leaves_where, key_in, key_out}
use Rattle.stock_laws.proofs.Enough.{is_same_key-true}
use Rattle.stock_model.proofs.Pairwise.{Pairwise-from_AllPairs}
use Rattle.stock_laws.proofs.Selections.{IsOfJournal-selected, Kept-chosen}
use Rattle.stock_laws.proofs.SheetKeys.{keys_of-ascending}
use Rattle.stock_laws.proofs.TestedSums.{counted, tested-same_of}

-- whether a key is the next one that passes, or one of those after it
one_of-parted : (passes same own front rest : Bool) → (same ≡ true → own ≡ passes) → front ≡ (own && rest) → cond passes (same || front) front ≡ (own && (same || rest))
one_of-parted true true true front rest agree is = refl
one_of-parted true true false front rest agree is = absurd (false≢true (agree refl))
one_of-parted true false own front rest agree is = is
one_of-parted false true true front rest agree is = absurd (false≢true (sym (agree refl)))
one_of-parted false true false front rest agree is = is
one_of-parted false false own front rest agree is = is

-- of the keys that pass a key is one where it passes and is one of all
one_of-filter : (test : Key → Bool) (keys : List Key) (key : Key) → is_one_of (filter test keys) key ≡ (test key && is_one_of keys key)
one_of-filter test [] key = sym (and-false (test key))
one_of-filter test (k ∷ keys) key =
    let front = is_one_of (filter test keys) key in
    let parted : is_one_of (filter test (k ∷ keys)) key ≡ cond (test k) (is_same_key key k || front) front =
    elim (test k) as (λ b. is_one_of (cond b (k ∷ filter test keys) (filter test keys)) key ≡ cond b (is_same_key key k || front) front) [ true ↦ refl | false ↦ refl ] in
    parted ∙ one_of-parted (test k) (is_same_key key k) (test key) front (is_one_of keys key) (λ same. ap test (is_same_key-true key k same)) (one_of-filter test keys key)

-- a key that is one of all is one of those that pass where it passes
one_of-passing : (test : Key → Bool) (keys : List Key) (key : Key) → is_one_of keys key ≡ true → is_one_of (filter test keys) key ≡ test key
one_of-passing test keys key is = one_of-filter test keys key ∙ ap (λ (b : Bool). test key && b) is ∙ and-true (test key)

-- what all items are worth where a test of the keys passes is what entered there less what left
pub stocks-where : (rows : List Row) (test : Key → Bool) → ((key : Key) → value_out rows key ≤ value_in rows key)
    → sum_by (stock_value rows) (filter test (keys_of rows)) + key_out test rows ≡ key_in test rows
stocks-where rows test covered =
    let keys = keys_of rows in
    let keyed = rows-keyed rows rows (λ row c. c) in
    let order = Pairwise-from_AllPairs IsKeyBefore (filter test keys) (AllPairs-filter IsKeyBefore test keys (keys_of-ascending rows)) in
    omega (
      arith,
      stocks rows (filter test keys) order covered,
      tested-same_of row_entry value_of (enters_where (is_one_of (filter test keys))) (enters_where test) (HasKeyOf keys)
          (λ row has. ap (λ (b : Bool). b && is_entering row.entry.place.side) (one_of-passing test keys (entry_key row.entry) has)) rows keyed,
      tested-same_of row_entry value_of (leaves_where (is_one_of (filter test keys))) (leaves_where test) (HasKeyOf keys)
          (λ row has. ap (λ (b : Bool). b && not (is_entering row.entry.place.side)) (one_of-passing test keys (entry_key row.entry) has)) rows keyed,
    )

-- an account of no warehouse is another account
other-account : (fixed account n : ℕ) → fixed ≤ 4 → LEAST_ACCOUNT ≤ account → counted (fixed == account) n ≡ 0
other-account fixed account n small large =
    let none : (fixed == account) ≡ false = grind (arith, nat_tests) in
    ap (λ (b : Bool). counted b n) none

-- on a warehouse's account no cause puts more than its value
debits-none : (c : Cause) (account value share : ℕ) → LEAST_ACCOUNT ≤ account → other_debits c account value share ≡ 0
debits-none (Receipt amount) account value share large = refl
debits-none (Issue true) account value share large = other-account COST_OF_GOODS_SOLD account value (omega arith) large
debits-none (Issue false) account value share large = other-account STOCK_ADJUSTMENT account value (omega arith) large
debits-none TransferLeaves account value share large = refl
debits-none TransferEnters account value share large = refl
debits-none (CustomerReturn target issued) account value share large = refl
debits-none (SupplierReturn target amount received) account value share large =
    omega (
      arith,
      other-account RECEIVED_NOT_BILLED account share (omega arith) large,
      other-account STOCK_ADJUSTMENT account (value - share) (omega arith) large,
    )

credits-none : (c : Cause) (account value share : ℕ) → LEAST_ACCOUNT ≤ account → other_credits c account value share ≡ 0
credits-none (Receipt amount) account value share large =
    omega (
      arith,
      other-account RECEIVED_NOT_BILLED account (value - share) (omega arith) large,
      other-account LANDED_CHARGES account share (omega arith) large,
    )
credits-none (Issue sold) account value share large = refl
credits-none TransferLeaves account value share large = refl
credits-none TransferEnters account value share large = refl
credits-none (CustomerReturn target issued) account value share large = other-account COST_OF_GOODS_SOLD account value (omega arith) large
credits-none (SupplierReturn target amount received) account value share large = other-account STOCK_ADJUSTMENT account (share - value) (omega arith) large

-- a sum of nothing for each row is nothing
all-none : (f : Row → ℕ) → ((row : Row) → f row ≡ 0) → (rows : List Row) → sum_by f rows ≡ 0
all-none f none [] = refl
all-none f none (row ∷ rows) = omega (arith, sum_by-cons f row rows, none row, all-none f none rows)

-- so a warehouse's account has the worth of its warehouses more debits than credits
pub chosen-stock : (query : Query) (chosen : Selected) (account : ℕ) → IsSelected query chosen → LEAST_ACCOUNT ≤ account → debits (lines_of chosen) account ≡ credits (lines_of chosen) account + worth_in chosen account
chosen-stock query chosen account from large =
    let covered = (Kept-chosen chosen (IsOfJournal-selected query chosen from)).costed.covered in
    omega (
      arith,
      debits-rows chosen.heads chosen.rows account,
      credits-rows chosen.heads chosen.rows account,
      stocks-where chosen.rows (is_in_account chosen.heads account) covered,
      all-none (row_debits account) (λ row. debits-none row.entry.cause account (value_of row) (share_of row) large) chosen.rows,
      all-none (row_credits account) (λ row. credits-none row.entry.cause account (value_of row) (share_of row) large) chosen.rows,
    )
