-- What was received is worth its purchase prices and no more charges than the journal's landed vouchers part.
use Rattle.std.proofs.Common.{◌≡◌, ℕ, ◌+◌, ◌*◌, ◌≤◌, ℤ, pos, ◌+ℤ◌, Bool, true, false, ◌&&◌, cond, List, [], ◌∷◌, ◌++◌, length, get_or, map, filter, sum_by, sum, refl, ap, ◌∙◌, arith, unsigned_abs}
use Rattle.std.specs.List.{All, flat_map, enumerate_from, zip}
use Rattle.std.proofs.lemmas.Bool.Decides.{nat_tests}
use Rattle.std.proofs.lemmas.Int.{ints}
use Rattle.std.proofs.lemmas.List.Sums.{sum_by-append, sum_by-cons, sum_by-le}
use Rattle.stock_nums.specs.Causes.{has_amounts_in_range}
use Rattle.stock_nums.specs.Quantities.{is_line_amount}
use Rattle.stock_nums.specs.Shares.{shares}
use Rattle.stock_nums.specs.Targets.{is_same_target}
use Rattle.stock_nums.specs.declared.cause.Cause.{Cause}
use Rattle.stock_nums.specs.declared.cause.Cause.TheVariants as cause
use Rattle.stock_nums.specs.declared.cause.Target.{Target}
use Rattle.stock_nums.specs.declared.entry.Row.{Row}
use Rattle.stock_nums.proofs.SharesLemmas.{sum-cons, sum-shares-le}
use Rattle.stock_model.specs.declared.records.Record.{Record}
use Rattle.stock_model.specs.declared.vouchers.What.{What}
use Rattle.stock_model.specs.declared.vouchers.What.TheVariants.{Item, Store, Receipt, Issue, Transfer, CustomerReturn, SupplierReturn, Landed, Freeze, Cancel}
use Rattle.stock_model.specs.Conservation.{is_receipt, price_by, price_of, purchases, charge_by, record_charge, charge_if, charges, received}
use Rattle.stock_model.specs.Entries.{is_live}
use Rattle.stock_model.specs.LandedCost.{weights, charged, record_charged, charged_if, all_charged, is_charge_of, charge_amount, added}
use Rattle.stock_model.specs.Limits.{is_within_limits}
use Rattle.stock_model.specs.Sums.{row_entry, value_of}
use Rattle.stock_model.specs.Values.{own_line}
use Rattle.stock_laws.proofs.Linked.{is_same_target-true, line_by, is_line, but_line, IsNone, IsLinkedBy}
use Rattle.stock_model.proofs.Pairwise.{Each}
use Rattle.stock_laws.proofs.TestedSums.{both-first, counted, counted-parts_after, tested-snoc, tested-split, tested-le, tested-none_of}
use Rattle.stock_laws.proofs.Conserved.{row_by}
use Rattle.stock_laws.proofs.Totals.{any_line, worth_by-next}

-- what is charged to the line of a row
abbrev pub row_added : List Record → Row → ℕ
row_added journal row = added journal (own_line row.entry)

-- what is charged to the lines of receipts among rows
abbrev pub added_where : List Record → (Target → Bool) → List Row → ℕ
added_where journal test rows = sum_by (row_added journal) (filter (row_by is_receipt test) rows)

-- a charge to such a line
abbrev pub is_charge_where : (Target → Bool) → Target × ℕ → Bool
is_charge_where test charge = test charge.0

abbrev pub charges_where : List Record → (Target → Bool) → ℕ
charges_where journal test = sum_by charge_amount (filter (is_charge_where test) (all_charged journal))

-- the rows of receipts are worth their prices and what is charged to their lines, and no charge is counted twice
pub record Received (journal : List Record) (rows : List Row) : Type 0 where
  pub prices : received rows ≡ purchases rows + added_where journal any_line rows
  pub charged_once : (test : Target → Bool) → added_where journal test rows ≤ charges_where journal test

pub Received-nil : (journal : List Record) → Received journal []
Received-nil journal = record { prices = refl; charged_once = λ test. omega arith }

-- the value of a receipt's row
abbrev pub IsPricedBy : List Record → Row → Cause → Type 0
IsPricedBy journal row (cause.Receipt amount) = value_of row ≡ unsigned_abs amount.0 + row_added journal row
IsPricedBy journal row _ = Unit {0}

purchases-next : (rows : List Row) (row : Row) (c : Cause) → row.entry.cause ≡ c → purchases (rows ++ row ∷ []) ≡ purchases rows + price_by c
purchases-next rows row c is =
    let last : price_of row ≡ price_by c = ap price_by is in
    omega (arith, sum_by-append price_of rows (row ∷ []), sum_by-cons price_of row [], last)

added-next : (journal : List Record) (test : Target → Bool) (rows : List Row) (row : Row) (c : Cause) → row.entry.cause ≡ c
    → added_where journal test (rows ++ row ∷ []) ≡ added_where journal test rows + counted (is_receipt c && test (line_by row.entry c)) (row_added journal row)
added-next journal test rows row c is =
    tested-snoc (row_added journal) (row_by is_receipt test) rows row
    ∙ ap (λ (d : Cause). added_where journal test rows + counted (is_receipt d && test (line_by row.entry d)) (row_added journal row)) is

added-split : (journal : List Record) (test : Target → Bool) (line : Target) (rows : List Row) → test line ≡ true
    → added_where journal test rows ≡ added_where journal (but_line test line) rows + added_where journal (is_line line) rows
added-split journal test line rows passes =
    tested-split (row_added journal) (row_by is_receipt test) (row_by is_receipt (but_line test line)) (row_by is_receipt (is_line line))
    (λ row. counted-parts_after (is_receipt row.entry.cause) (test (line_by row.entry row.entry.cause)) (is_same_target (line_by row.entry row.entry.cause) line) (row_added journal row)
    (λ same. ap test (is_same_target-true (line_by row.entry row.entry.cause) line same) ∙ passes)) rows

charges-split : (journal : List Record) (test : Target → Bool) (line : Target) → test line ≡ true
    → charges_where journal test ≡ charges_where journal (but_line test line) + added journal line
charges-split journal test line passes =
    tested-split charge_amount (is_charge_where test) (is_charge_where (but_line test line)) (is_charge_of line)
    (λ charge. counted-parts_after true (test charge.0) (is_same_target charge.0 line) (charge_amount charge)
    (λ same. ap test (is_same_target-true charge.0 line same) ∙ passes)) (all_charged journal)

-- a row of another kind
Received-other : (journal : List Record) (rows : List Row) (row : Row) (c : Cause) → row.entry.cause ≡ c → is_receipt c ≡ false → price_by c ≡ 0 → Received journal rows → Received journal (rows ++ row ∷ [])
Received-other journal rows row c is other free before =
    let same : (test : Target → Bool) → added_where journal test (rows ++ row ∷ []) ≡ added_where journal test rows + 0 =
    λ test. added-next journal test rows row c is ∙ ap (λ (b : Bool). added_where journal test rows + counted (b && test (line_by row.entry c)) (row_added journal row)) other in
    let worth : received (rows ++ row ∷ []) ≡ received rows + 0 =
    worth_by-next is_receipt rows row c is ∙ ap (λ (b : Bool). received rows + counted b (value_of row)) other in
    record {
      prices = omega (arith, worth, same any_line, purchases-next rows row c is, free, before.prices);
      charged_once = λ test. omega (arith, same test, before.charged_once test);
    }

-- a line that was not received before
Received-line : (journal : List Record) (rows : List Row) (row : Row) (c : Cause) → row.entry.cause ≡ c → is_receipt c ≡ true → line_by row.entry c ≡ own_line row.entry
    → value_of row ≡ price_by c + row_added journal row → Each (IsNone is_receipt (own_line row.entry)) (map row_entry rows) → Received journal rows → Received journal (rows ++ row ∷ [])
Received-line journal rows row c is receipt line value none before =
    let own = own_line row.entry in
    let next : (test : Target → Bool) → added_where journal test (rows ++ row ∷ []) ≡ added_where journal test rows + counted (test own) (row_added journal row) =
    λ test. added-next journal test rows row c is
    ∙ ap (λ (b : Bool). added_where journal test rows + counted (b && test (line_by row.entry c)) (row_added journal row)) receipt
    ∙ ap (λ (l : Target). added_where journal test rows + counted (test l) (row_added journal row)) line in
    let worth : received (rows ++ row ∷ []) ≡ received rows + value_of row =
    worth_by-next is_receipt rows row c is ∙ ap (λ (b : Bool). received rows + counted b (value_of row)) receipt in
    let nothing : added_where journal (is_line own) rows ≡ 0 =
    tested-none_of row_entry (row_added journal) (row_by is_receipt (is_line own)) (IsNone is_receipt own) (λ r h. h) rows none in
    let step : (test : Target → Bool) (b : Bool) → test own ≡ b → added_where journal test rows + counted b (row_added journal row) ≤ charges_where journal test =
    λ test b. elim b as (λ v. test own ≡ v → added_where journal test rows + counted v (row_added journal row) ≤ charges_where journal test) [
      | true ↦ λ passes.
          omega (arith, added-split journal test own rows passes, charges-split journal test own passes, before.charged_once (but_line test own), nothing)
      | false ↦ λ fails. omega (arith, before.charged_once test)
    ] in
    record {
      prices = omega (arith, worth, next any_line, purchases-next rows row c is, value, before.prices);
      charged_once = λ test. omega (arith, next test, step test (test own) refl);
    }

pub Received-next : (journal : List Record) (rows : List Row) (row : Row) (c : Cause) → row.entry.cause ≡ c → IsPricedBy journal row c → IsLinkedBy (map row_entry rows) row.entry c
    → Received journal rows → Received journal (rows ++ row ∷ [])
Received-next journal rows row (cause.Receipt amount) is value linked before = Received-line journal rows row (cause.Receipt amount) is refl refl value linked before
Received-next journal rows row (cause.Issue sold) is value linked before = Received-other journal rows row (cause.Issue sold) is refl refl before
Received-next journal rows row cause.TransferLeaves is value linked before = Received-other journal rows row cause.TransferLeaves is refl refl before
Received-next journal rows row cause.TransferEnters is value linked before = Received-other journal rows row cause.TransferEnters is refl refl before
Received-next journal rows row (cause.CustomerReturn target issued) is value linked before =
    Received-other journal rows row (cause.CustomerReturn target issued) is refl refl before
Received-next journal rows row (cause.SupplierReturn target amount got) is value linked before =
    Received-other journal rows row (cause.SupplierReturn target amount got) is refl refl before

pub amount-le : (amount : ℤ) → is_line_amount amount ≡ true → unsigned_abs amount ≤ 1_000_000_000_000
amount-le amount h = grind (arith, ints, nat_tests)

-- what a line costs with its charges
pub amount-added : (amount : ℤ) (n : ℕ) → is_line_amount amount ≡ true → unsigned_abs (amount +ℤ pos n) ≡ unsigned_abs amount + n
amount-added amount n h = grind (arith, ints, nat_tests)

price-le : (c : Cause) → has_amounts_in_range c ≡ true → price_by c ≤ 1_000_000_000_000
price-le (cause.Receipt amount) h = amount-le amount.0 h
price-le (cause.Issue sold) h = omega arith
price-le cause.TransferLeaves h = omega arith
price-le cause.TransferEnters h = omega arith
price-le (cause.CustomerReturn target issued) h = omega arith
price-le (cause.SupplierReturn target amount got) h = omega arith

prices-le : (rows : List Row) → All (λ row. price_of row ≤ 1_000_000_000_000) rows
prices-le rows k d within = price-le (get_or rows k d).entry.cause (get_or rows k d).entry.amounts

pub purchases-le : (rows : List Row) → purchases rows ≤ length rows * 1_000_000_000_000
purchases-le rows = sum_by-le price_of 1_000_000_000_000 rows (prices-le rows)

-- where some are left without a partner, nothing is added
pub zip-le : (targets : List Target) (ws : List ℕ) → sum_by charge_amount (zip targets ws) ≤ sum ws
zip-le [] ws = omega arith
zip-le (t ∷ ts) [] = omega arith
zip-le (t ∷ ts) (w ∷ ws) = omega (arith, sum_by-cons charge_amount (t, w) (zip ts ws), sum-cons w ws, zip-le ts ws)

-- a voucher parts no more than its charge
charged-le : (journal : List Record) (what : What) → sum_by charge_amount (charged journal what) ≤ charge_by what
charged-le journal (Item code method) = omega arith
charged-le journal (Store code account) = omega arith
charged-le journal (Receipt at lines) = omega arith
charged-le journal (Issue at purpose lines) = omega arith
charged-le journal (Transfer at lines) = omega arith
charged-le journal (CustomerReturn at lines) = omega arith
charged-le journal (SupplierReturn at lines) = omega arith
charged-le journal (Landed charge basis targets) =
    omega (arith, zip-le targets (shares (unsigned_abs charge.0) (weights journal basis targets)), sum-shares-le (unsigned_abs charge.0) (weights journal basis targets))
charged-le journal (Freeze until) = omega arith
charged-le journal (Cancel cancelled) = omega arith

-- in force or not
charged_if-le : (b : Bool) (journal : List Record) (item : Record) → sum_by charge_amount (cond b (record_charged journal item) []) ≤ cond b (record_charge item) 0
charged_if-le true journal item = charged-le journal item.what
charged_if-le false journal item = omega arith

charges_of-le : (live : ℕ → Bool) (journal : List Record) (k : ℕ) (records : List Record)
    → sum_by charge_amount (flat_map (charged_if live journal) (enumerate_from k records)) ≤ sum_by (charge_if live) (enumerate_from k records)
charges_of-le live journal k [] = omega arith
charges_of-le live journal k (item ∷ records) =
    let rest = enumerate_from (k + 1) records in
    omega (
      arith,
      sum_by-append charge_amount (charged_if live journal (k, item)) (flat_map (charged_if live journal) rest),
      charged_if-le (live k) journal item,
      charges_of-le live journal (k + 1) records,
      sum_by-cons (charge_if live) (k, item) rest,
    )

-- what was received is worth no more than the purchases and all charges
pub received-le : (journal : List Record) (rows : List Row) → Received journal rows → received rows ≤ purchases rows + charges journal
received-le journal rows before =
    omega (arith, before.prices, before.charged_once any_line, tested-le charge_amount (is_charge_where any_line) (all_charged journal), charges_of-le (is_live journal) journal 1 journal)

charge-le : (what : What) → is_within_limits what ≡ true → charge_by what ≤ 1_000_000_000_000
charge-le (Item code method) h = omega arith
charge-le (Store code account) h = omega arith
charge-le (Receipt at lines) h = omega arith
charge-le (Issue at purpose lines) h = omega arith
charge-le (Transfer at lines) h = omega arith
charge-le (CustomerReturn at lines) h = omega arith
charge-le (SupplierReturn at lines) h = omega arith
charge-le (Landed charge basis targets) h = amount-le charge.0 (both-first (is_line_amount charge.0) _ h)
charge-le (Freeze until) h = omega arith
charge-le (Cancel cancelled) h = omega arith

charge_if-le : (b : Bool) (item : Record) → cond b (record_charge item) 0 ≤ 1_000_000_000_000
charge_if-le true item = charge-le item.what item.limits
charge_if-le false item = omega arith

charges_from-le : (live : ℕ → Bool) (k : ℕ) (records : List Record) → sum_by (charge_if live) (enumerate_from k records) ≤ length records * 1_000_000_000_000
charges_from-le live k [] = omega arith
charges_from-le live k (item ∷ records) =
    omega (arith, sum_by-cons (charge_if live) (k, item) (enumerate_from (k + 1) records), charge_if-le (live k) item, charges_from-le live (k + 1) records)

-- the charges of a journal are at most 10^12 for each of its records
pub charges-le : (journal : List Record) → charges journal ≤ length journal * 1_000_000_000_000
charges-le journal = charges_from-le (is_live journal) 1 journal
