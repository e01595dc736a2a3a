-- The share of a receipt is within its value, and that of what goes back to a supplier within its line's price.
use Rattle.std.proofs.Common.{◌≡◌, ℕ, ◌+◌, ◌*◌, ◌≤◌, true, List, [], ◌∷◌, ◌++◌, length, take, drop, filter, sum_by, refl, sym, ap, ◌∙◌, subst, append_assoc, arith, unsigned_abs}
use Rattle.std.proofs.lemmas.List.{append-nil, take-append-drop}
use Rattle.std.proofs.lemmas.List.Sums.{fold-append}
use Rattle.stock_nums.proofs.PartLemmas.{part-le}
use Rattle.stock_nums.specs.Causes.{has_amounts_in_range}
use Rattle.stock_nums.specs.Quantities.{is_line_amount}
use Rattle.stock_nums.specs.declared.cause.Cause.{Cause}
use Rattle.stock_nums.specs.declared.cause.Cause.TheVariants.{Receipt, Issue, TransferLeaves, TransferEnters, CustomerReturn, SupplierReturn}
use Rattle.stock_nums.specs.declared.entry.Entry.{Entry}
use Rattle.stock_nums.specs.declared.entry.Row.{Row}
use Rattle.stock_nums.specs.declared.limits.TheConstants.{MAX_AMOUNT}
use Rattle.stock_model.specs.declared.records.Record.{Record}
use Rattle.stock_model.specs.Conservation.{is_supplier_return, has_cause}
use Rattle.stock_model.specs.Journals.{AreLegal}
use Rattle.stock_model.specs.LandedCost.{added}
use Rattle.stock_model.specs.LedgerLines.{share_of}
use Rattle.stock_model.specs.PostingOrder.{posting_line}
use Rattle.stock_model.specs.Replay.{valued, value_next, rows_of}
use Rattle.stock_model.specs.Sums.{value_of}
use Rattle.stock_model.specs.Values.{own_line, returned_before, value_by, share_by, HasUnitsLeftBy}
use Rattle.stock_laws.proofs.LegalReplay.{CanBeValued-split}
use Rattle.stock_model.proofs.Pairwise.{Each, Each-append}
use Rattle.stock_laws.proofs.Received.{amount-le, amount-added}
use Rattle.stock_laws.proofs.TestedSums.{both-first, counted, tested-cons, Each-front}
use Rattle.stock_laws.proofs.Valuation.{rows_of-take}

-- the row's share is as its cause says
abbrev pub HasShareBy : Row → Cause → Type 0
HasShareBy row (Receipt amount) = share_of row ≤ value_of row
HasShareBy row (SupplierReturn target amount received) = share_of row ≤ MAX_AMOUNT
HasShareBy row _ = Unit {0}

abbrev pub HasShare : Row → Type 0
HasShare row = HasShareBy row row.entry.cause

-- so is that of a row that is valued from those before it
HasShareBy-valued : (journal : List Record) (before : List Row) (row : Row) (c : Cause) → row.worth.value.0 ≡ value_by journal before row.entry c → row.worth.share.0 ≡ share_by journal before row.entry c
    → has_amounts_in_range c ≡ true → HasUnitsLeftBy before row.entry c → HasShareBy row c
HasShareBy-valued journal before row (Receipt amount) value share amounts left =
    let whole : value_of row ≡ unsigned_abs amount.0 + added journal (own_line row.entry) = ap unsigned_abs value ∙ amount-added amount.0 (added journal (own_line row.entry)) amounts in
    let part_of : share_of row ≡ added journal (own_line row.entry) = ap unsigned_abs share in
    omega (arith, whole, part_of)
HasShareBy-valued journal before row (Issue sold) value share amounts left = tt
HasShareBy-valued journal before row TransferLeaves value share amounts left = tt
HasShareBy-valued journal before row TransferEnters value share amounts left = tt
HasShareBy-valued journal before row (CustomerReturn target issued) value share amounts left = tt
HasShareBy-valued journal before row (SupplierReturn target amount received) value share amounts left =
    omega (
      arith,
      ap unsigned_abs share,
      part-le (unsigned_abs amount.0) (returned_before before target) row.entry.qty.0 received.0 left,
      amount-le amount.0 (both-first (is_line_amount amount.0) _ amounts),
    )

-- and of all rows of a legal journal
shares-after : (journal : List Record) (past rest : List Entry) → AreLegal journal → past ++ rest ≡ posting_line journal → Each HasShare (rows_of journal past) → Each HasShare (rows_of journal (past ++ rest))
shares-after journal past [] legal parts held = rw append-nil held
shares-after journal past (e ∷ rest) legal parts held =
    let rows = rows_of journal past in
    let row = valued journal rows e in
    let left = (CanBeValued-split journal past e rest legal parts).left in
    let more : rows_of journal (past ++ e ∷ []) ≡ rows ++ row ∷ [] = fold-append (value_next journal) [] past (e ∷ []) in
    let grown : Each HasShare (rows_of journal (past ++ e ∷ [])) =
    subst (Each HasShare) (sym more) (Each-append HasShare rows (row ∷ []) held (HasShareBy-valued journal rows row e.cause refl refl e.amounts left, tt)) in
    subst (λ (es : List Entry). Each HasShare (rows_of journal es)) (append_assoc past (e ∷ []) rest)
    (shares-after journal (past ++ e ∷ []) rest legal (append_assoc past (e ∷ []) rest ∙ parts) grown)

-- and of the first of them
pub HasShare-first_rows : (journal : List Record) (n : ℕ) → AreLegal journal → Each HasShare (rows_of journal (take n (posting_line journal)))
HasShare-first_rows journal n legal =
    let line = posting_line journal in
    let rows = rows_of journal line in
    let all : Each HasShare rows = shares-after journal [] line legal refl tt in
    subst (Each HasShare) (rows_of-take journal line n)
    (Each-front HasShare (take n rows) (drop n rows) (subst (Each HasShare) (sym (take-append-drop n rows)) all))

-- the prices of what went back to suppliers
abbrev pub given_shares : List Row → ℕ
given_shares rows = sum_by share_of (filter (has_cause is_supplier_return) rows)

-- one of them is at most 10^12
given-le : (row : Row) (c : Cause) → HasShareBy row c → counted (is_supplier_return c) (share_of row) ≤ MAX_AMOUNT
given-le row (Receipt amount) share = omega arith
given-le row (Issue sold) share = omega arith
given-le row TransferLeaves share = omega arith
given-le row TransferEnters share = omega arith
given-le row (CustomerReturn target issued) share = omega arith
given-le row (SupplierReturn target amount received) share = share

-- and together they are at most 10^12 for each row
pub given_shares-le : (rows : List Row) → Each HasShare rows → given_shares rows ≤ length rows * MAX_AMOUNT
given_shares-le [] all = omega arith
given_shares-le (row ∷ rows) all =
    omega (
      arith,
      tested-cons share_of (has_cause is_supplier_return) row rows,
      given-le row row.entry.cause all.0,
      given_shares-le rows all.1,
    )
