-- A legal line is valued without taking more value than there is, and no value is large.
use Rattle.std.proofs.Common.{◌≡◌, ℕ, zero, suc, ◌+◌, ◌<◌, ◌≤◌, ℤ, pos, ◌+ℤ◌, Bool, true, false, ◌&&◌, not, List, [], ◌∷◌, ◌++◌, length, take, drop, map, fold, inl, inr, refl, sym, ap, ◌∙◌, subst, arith, length-append, append_assoc, unsigned_abs, int_le}
use Rattle.std.specs.List.{list_all, All}
use Rattle.std.proofs.lemmas.Bool.{cases_lt}
use Rattle.std.proofs.lemmas.Bool.Decides.{nat_tests}
use Rattle.std.proofs.lemmas.Int.{ints}
use Rattle.std.proofs.lemmas.List.{append-nil, length-take, take-take, take-append-drop, take-append-le, take_all, map-append}
use Rattle.std.proofs.lemmas.List.Folds.{list_all-append}
use Rattle.std.proofs.lemmas.List.Elements.{All-head, All-tail}
use Rattle.std.proofs.lemmas.List.Sums.{fold-append}
use Rattle.stock_nums.specs.Causes.{has_amounts_in_range, has_side, is_entering}
use Rattle.stock_nums.specs.Quantities.{is_line_amount}
use Rattle.stock_nums.specs.Targets.{is_same_target}
use Rattle.stock_nums.specs.declared.cause.Cause.{Cause}
use Rattle.stock_nums.specs.declared.cause.Cause.TheVariants.{Receipt, Issue, TransferLeaves, TransferEnters, CustomerReturn, SupplierReturn}
use Rattle.stock_nums.specs.declared.cause.Method.{Method}
use Rattle.stock_nums.specs.declared.cause.Target.{Target}
use Rattle.stock_nums.specs.declared.entry.Entry.{Entry}
use Rattle.stock_nums.specs.declared.entry.Key.{Key}
use Rattle.stock_nums.specs.declared.entry.Row.{Row}
use Rattle.stock_nums.specs.declared.limits.TheConstants.{MAX_VALUE, MAX_ENTRIES}
use Rattle.stock_model.specs.declared.records.Record.{Record}
use Rattle.stock_model.specs.Bounds.{has_value_in_range, AreBounded}
use Rattle.stock_model.specs.Conservation.{charges, received}
use Rattle.stock_model.specs.Enough.{entry_key, IsEnough}
use Rattle.stock_model.specs.Formulas.{HasFormula}
use Rattle.stock_model.specs.LandedCost.{added}
use Rattle.stock_model.specs.Replay.{valued, value_next, rows_of}
use Rattle.stock_model.specs.Sums.{row_entry, value_of, value_in, value_out}
use Rattle.stock_model.specs.Values.{cost_by, own_line, line_cost, value_by, HasUnits, HasUnitsLeftBy, HasUnitsLeft}
use Rattle.stock_laws.proofs.Linked.{is_same_target-true, IsNoneLeaving, IsLinkedBy, IsLinked, AreLinkedAfter, AreLinkedAfter-at}
use Rattle.stock_model.proofs.Pairwise.{Each}
use Rattle.stock_laws.proofs.TestedSums.{counted, tested-none_of}
use Rattle.stock_laws.proofs.CostedRows.{IsOutBy, HasUnits-enough, both, value-of_leaving, leaving-worth, AreCosted, AreCosted-nil, AreCosted-next, IsOutBy-own, map-value_all}
use Rattle.stock_laws.proofs.Conserved.{Conserved, Conserved-nil, line_cost-next}
use Rattle.stock_laws.proofs.Conserving.{side-is, IsWorthBy, Conserved-next}
use Rattle.stock_laws.proofs.Totals.{stock_value-le, value_of-le_received}
use Rattle.stock_laws.proofs.Received.{Received, Received-nil, Received-next, IsPricedBy, received-le, purchases-le, amount-added}

IsWorthBy-valued : (journal : List Record) (rows : List Row) (row : Row) (cause : Cause) → row.worth.value.0 ≡ value_by journal rows row.entry cause → has_side cause row.entry.place.side ≡ true
    → HasUnits rows row.entry → IsOutBy row.entry.method rows (entry_key row.entry) → IsWorthBy rows row cause
IsWorthBy-valued journal rows row (Receipt amount) value sides held out = tt
IsWorthBy-valued journal rows row (Issue sold) value sides held out =
    leaving-worth journal rows row (Issue sold) value sides held out (ap not (side-is false row.entry.place.side sides))
IsWorthBy-valued journal rows row TransferLeaves value sides held out =
    leaving-worth journal rows row TransferLeaves value sides held out (ap not (side-is false row.entry.place.side sides))
IsWorthBy-valued journal rows row TransferEnters value sides held out = ap unsigned_abs value
IsWorthBy-valued journal rows row (CustomerReturn target issued) value sides held out = ap unsigned_abs value
IsWorthBy-valued journal rows row (SupplierReturn target amount got) value sides held out =
    leaving-worth journal rows row (SupplierReturn target amount got) value sides held out (ap not (side-is false row.entry.place.side sides))

IsPricedBy-valued : (journal : List Record) (rows : List Row) (row : Row) (cause : Cause) → row.worth.value.0 ≡ value_by journal rows row.entry cause → has_amounts_in_range cause ≡ true → IsPricedBy journal row cause
IsPricedBy-valued journal rows row (Receipt amount) value amounts = ap unsigned_abs value ∙ amount-added amount.0 (added journal (own_line row.entry)) amounts
IsPricedBy-valued journal rows row (Issue sold) value amounts = tt
IsPricedBy-valued journal rows row TransferLeaves value amounts = tt
IsPricedBy-valued journal rows row TransferEnters value amounts = tt
IsPricedBy-valued journal rows row (CustomerReturn target issued) value amounts = tt
IsPricedBy-valued journal rows row (SupplierReturn target amount got) value amounts = tt

cost-in_range : (cost : ℕ) → cost ≤ MAX_VALUE → (int_le (pos 0) (pos cost) && int_le (pos cost) (pos MAX_VALUE)) ≡ true
cost-in_range cost h = grind (arith, ints, nat_tests)

amount-in_range : (amount : ℤ) (n : ℕ) → is_line_amount amount ≡ true → unsigned_abs (amount +ℤ pos n) ≤ MAX_VALUE → (int_le (pos 0) (amount +ℤ pos n) && int_le (amount +ℤ pos n) (pos MAX_VALUE)) ≡ true
amount-in_range amount n h small = grind (arith, ints, nat_tests)

-- a value is never negative, so it is in range where it is small
value_by-in_range : (journal : List Record) (rows : List Row) (e : Entry) (cause : Cause) → has_amounts_in_range cause ≡ true → unsigned_abs (value_by journal rows e cause) ≤ MAX_VALUE
    → (int_le (pos 0) (value_by journal rows e cause) && int_le (value_by journal rows e cause) (pos MAX_VALUE)) ≡ true
value_by-in_range journal rows e (Receipt amount) amounts small = amount-in_range amount.0 (added journal (own_line e)) amounts small
value_by-in_range journal rows e (Issue sold) amounts small = cost-in_range _ small
value_by-in_range journal rows e TransferLeaves amounts small = cost-in_range _ small
value_by-in_range journal rows e TransferEnters amounts small = cost-in_range _ small
value_by-in_range journal rows e (CustomerReturn target issued) amounts small = cost-in_range _ small
value_by-in_range journal rows e (SupplierReturn target amount got) amounts small = cost-in_range _ small

-- so many rows are kept: value is conserved, values are in range, and units left by their formula
pub record Kept (formula : ℕ → Method) (journal : List Record) (rows : List Row) : Type 0 where
  pub few : length rows ≤ MAX_ENTRIES
  pub conserved : Conserved rows
  pub priced : Received journal rows
  pub in_range : list_all has_value_in_range rows ≡ true
  pub lines : (line : Target) → line_cost rows line ≤ MAX_VALUE
  pub costed : AreCosted formula rows

-- the charges of a journal are small
abbrev pub IsAffordable : List Record → Type 0
IsAffordable journal = charges journal ≤ 50_000_000_000_000_000

received-small : (journal : List Record) (rows : List Row) → IsAffordable journal → length rows ≤ MAX_ENTRIES → Received journal rows → received rows ≤ MAX_VALUE
received-small journal rows affordable few priced = omega (arith, received-le journal rows priced, purchases-le rows, affordable, few)

-- a movement that may come next
pub record IsNext (formula : ℕ → Method) (journal : List Record) (rows : List Row) (e : Entry) : Type 0 where
  pub affordable : IsAffordable journal
  pub room : length rows < MAX_ENTRIES
  pub units : HasUnits rows e
  pub has : HasFormula formula e
  pub linked : IsLinked (map row_entry rows) e

Conserved-valued : (formula : ℕ → Method) (journal : List Record) (rows : List Row) (e : Entry) → Kept formula journal rows → IsNext formula journal rows e → Conserved (value_next journal rows e)
Conserved-valued formula journal rows e kept next =
    Conserved-next rows (valued journal rows e) e.cause refl e.sides e.amounts next.linked.0
    (IsWorthBy-valued journal rows (valued journal rows e) e.cause refl e.sides next.units (IsOutBy-own formula rows e kept.costed next.has)) kept.conserved

Received-valued : (formula : ℕ → Method) (journal : List Record) (rows : List Row) (e : Entry) → Kept formula journal rows → IsNext formula journal rows e → Received journal (value_next journal rows e)
Received-valued formula journal rows e kept next =
    Received-next journal rows (valued journal rows e) e.cause refl (IsPricedBy-valued journal rows (valued journal rows e) e.cause refl e.amounts) next.linked.0 kept.priced

length-next : (journal : List Record) (rows : List Row) (e : Entry) → length (value_next journal rows e) ≡ length rows + 1
length-next journal rows e = length-append rows (valued journal rows e ∷ [])

-- its value is small
value-small : (formula : ℕ → Method) (journal : List Record) (rows : List Row) (e : Entry) → Kept formula journal rows → IsNext formula journal rows e → value_of (valued journal rows e) ≤ MAX_VALUE
value-small formula journal rows e kept next =
    let row = valued journal rows e in
    let most = value_of-le_received rows row e.cause refl
    (IsWorthBy-valued journal rows row e.cause refl e.sides next.units (IsOutBy-own formula rows e kept.costed next.has)) kept.conserved
    (Conserved-valued formula journal rows e kept next) in
    let small = received-small journal (value_next journal rows e) next.affordable (omega (arith, length-next journal rows e, next.room)) (Received-valued formula journal rows e kept next) in
    omega (arith, most, small)

pub value-in_range : (formula : ℕ → Method) (journal : List Record) (rows : List Row) (e : Entry) → Kept formula journal rows → IsNext formula journal rows e → has_value_in_range (valued journal rows e) ≡ true
value-in_range formula journal rows e kept next = value_by-in_range journal rows e e.cause e.amounts (value-small formula journal rows e kept next)

-- a line by which something leaves costs what that is worth
lines-next : (formula : ℕ → Method) (journal : List Record) (rows : List Row) (e : Entry) → Kept formula journal rows → IsNext formula journal rows e → (line : Target) → line_cost (value_next journal rows e) line ≤ MAX_VALUE
lines-next formula journal rows e kept next line =
    let row = valued journal rows e in
    let small = value-small formula journal rows e kept next in
    let step : (own enters : Bool) → is_same_target (own_line e) line ≡ own → is_entering e.place.side ≡ enters → line_cost rows line + counted (own && not enters) (value_of row) ≤ MAX_VALUE =
    λ own enters. elim own as (λ o. is_same_target (own_line e) line ≡ o → is_entering e.place.side ≡ enters → line_cost rows line + counted (o && not enters) (value_of row) ≤ MAX_VALUE) [
      | false ↦ λ other side. omega (arith, kept.lines line)
      | true ↦ λ mine. elim enters as (λ v. is_entering e.place.side ≡ v → line_cost rows line + counted (not v) (value_of row) ≤ MAX_VALUE) [
        | true ↦ λ side. omega (arith, kept.lines line)
        | false ↦ λ side.
            let none : Each (IsNoneLeaving line) (map row_entry rows) =
            subst (λ (l : Target). Each (IsNoneLeaving l) (map row_entry rows)) (is_same_target-true (own_line e) line mine) (next.linked.1 side) in
            let nothing : line_cost rows line ≡ 0 = tested-none_of row_entry value_of _ (IsNoneLeaving line) (λ r h. h) rows none in
            omega (arith, nothing, small)
      ]
    ] in
    omega (arith, line_cost-next rows row line (is_entering e.place.side) refl, step (is_same_target (own_line e) line) (is_entering e.place.side) refl refl)

-- one more movement, valued from the rows
pub Kept-next : (formula : ℕ → Method) (journal : List Record) (rows : List Row) (e : Entry) → Kept formula journal rows → IsNext formula journal rows e → Kept formula journal (value_next journal rows e)
Kept-next formula journal rows e kept next =
    let row = valued journal rows e in
    record {
      few = omega (arith, length-next journal rows e, next.room);
      conserved = Conserved-valued formula journal rows e kept next;
      priced = Received-valued formula journal rows e kept next;
      in_range = list_all-append has_value_in_range rows (row ∷ []) ∙ both kept.in_range (both (value-in_range formula journal rows e kept next) refl);
      lines = lines-next formula journal rows e kept next;
      costed = AreCosted-next formula journal rows e kept.costed next.has next.units;
    }

Kept-nil : (formula : ℕ → Method) (journal : List Record) → Kept formula journal []
Kept-nil formula journal =
    record {
      few = omega arith;
      conserved = Conserved-nil;
      priced = Received-nil journal;
      in_range = refl;
      lines = λ line. omega arith;
      costed = AreCosted-nil formula;
    }

-- a line of movements that can be valued: no more than a journal holds, with one formula for each item, with always enough
-- there, each linked to those before it
pub record IsLegalLine (formula : ℕ → Method) (journal : List Record) (line : List Entry) : Type 0 where
  pub few : length line ≤ MAX_ENTRIES
  pub affordable : IsAffordable journal
  pub formulas : All (HasFormula formula) line
  pub enough : IsEnough line
  pub linked : AreLinkedAfter [] line

length-value_all : (journal : List Record) (rows : List Row) (es : List Entry) → length (fold (value_next journal) rows es) ≡ length rows + length es
length-value_all journal rows [] = omega arith
length-value_all journal rows (e ∷ es) = omega (arith, length-value_all journal (value_next journal rows e) es, length-next journal rows e)

pub length-rows_of : (journal : List Record) (es : List Entry) → length (rows_of journal es) ≡ length es
length-rows_of journal es = omega (arith, length-value_all journal [] es)

-- further movements add rows at the end
more-rows : (journal : List Record) (rows : List Row) (es : List Entry) → (more : List Row) × (fold (value_next journal) rows es ≡ rows ++ more)
more-rows journal rows [] = ([], sym (append-nil rows))
more-rows journal rows (e ∷ es) =
    let rest = more-rows journal (value_next journal rows e) es in
    (valued journal rows e ∷ rest.0, rest.1 ∙ append_assoc rows (valued journal rows e ∷ []) rest.0)

-- the first rows are those of the first movements
pub rows_of-take : (journal : List Record) (line : List Entry) (n : ℕ) → take n (rows_of journal line) ≡ rows_of journal (take n line)
rows_of-take journal line n =
    elim (cases_lt (length line) n) [
      | inl more ↦
          take_all n (rows_of journal line) (omega (arith, length-rows_of journal line, more))
          ∙ ap (rows_of journal) (sym (take_all n line (omega (arith, more))))
      | inr within ↦
          let front = rows_of journal (take n line) in
          let rest = more-rows journal front (drop n line) in
          let parts : rows_of journal line ≡ front ++ rest.0 =
          ap (rows_of journal) (sym (take-append-drop n line)) ∙ fold-append (value_next journal) [] (take n line) (drop n line) ∙ rest.1 in
          let long : length front ≡ n = omega (arith, length-rows_of journal (take n line), length-take n line, within) in
          ap (take n) parts ∙ take-append-le n front rest.0 (omega (arith, long)) ∙ take_all n front (omega (arith, long))
    ]

-- a movement of a legal line may come next after the rows of those before it
next-from : (formula : ℕ → Method) (journal : List Record) (rows : List Row) (e : Entry) (es : List Entry) → IsAffordable journal → length rows + length (e ∷ es) ≤ MAX_ENTRIES
    → All (HasFormula formula) (e ∷ es) → IsEnough (map row_entry rows ++ e ∷ es) → IsLinked (map row_entry rows) e → IsNext formula journal rows e
next-from formula journal rows e es affordable few all enough linked =
    record {
      affordable = affordable;
      room = omega (arith, few);
      units = HasUnits-enough rows e es enough;
      has = All-head (HasFormula formula) e es all;
      linked = linked;
    }

-- and so all rows are kept, at every prefix
Kept-all : (formula : ℕ → Method) (journal : List Record) (rows : List Row) (es : List Entry) (n : ℕ) → Kept formula journal rows → IsAffordable journal → length rows + length es ≤ MAX_ENTRIES
    → All (HasFormula formula) es → IsEnough (map row_entry rows ++ es) → AreLinkedAfter (map row_entry rows) es → Kept formula journal (fold (value_next journal) rows (take n es))
Kept-all formula journal rows es zero kept affordable few all enough linked = kept
Kept-all formula journal rows [] (suc n) kept affordable few all enough linked = kept
Kept-all formula journal rows (e ∷ es) (suc n) kept affordable few all enough linked =
    let grown : map row_entry (value_next journal rows e) ≡ map row_entry rows ++ e ∷ [] = map-append row_entry rows (valued journal rows e ∷ []) in
    Kept-all formula journal (value_next journal rows e) es n
    (Kept-next formula journal rows e kept (next-from formula journal rows e es affordable few all enough linked.0))
    affordable (omega (arith, length-next journal rows e, few)) (All-tail (HasFormula formula) e es all)
    (subst IsEnough (sym (ap (λ (front : List Entry). front ++ es) grown ∙ append_assoc (map row_entry rows) (e ∷ []) es)) enough)
    (subst (λ (past : List Entry). AreLinkedAfter past es) (sym grown) linked.1)

pub Kept-take : (formula : ℕ → Method) (journal : List Record) (line : List Entry) (n : ℕ) → IsLegalLine formula journal line → Kept formula journal (rows_of journal (take n line))
Kept-take formula journal line n legal =
    Kept-all formula journal [] line n (Kept-nil formula journal) legal.affordable (omega (arith, legal.few)) legal.formulas legal.enough legal.linked

pub Kept-rows_of : (formula : ℕ → Method) (journal : List Record) (line : List Entry) → IsLegalLine formula journal line → Kept formula journal (rows_of journal line)
Kept-rows_of formula journal line legal =
    subst (λ (es : List Entry). Kept formula journal (rows_of journal es)) (take_all (length line) line (omega arith)) (Kept-take formula journal line (length line) legal)

-- the stock of a key is never worth more than all that was received
not_large : (formula : ℕ → Method) (journal : List Record) (rows : List Row) (key : Key) → IsAffordable journal → Kept formula journal rows → value_in rows key ≤ value_out rows key + MAX_VALUE
not_large formula journal rows key affordable kept =
    omega (arith, stock_value-le rows key kept.conserved, received-small journal rows affordable kept.few kept.priced, kept.costed.covered key)

-- the rows of the first movements of a legal line are bounded
pub AreBounded-take_line : (formula : ℕ → Method) (journal : List Record) (line : List Entry) (k : ℕ) → IsLegalLine formula journal line → AreBounded (rows_of journal (take k line))
AreBounded-take_line formula journal line k legal =
    let kept = Kept-take formula journal line k legal in
    let front : (n : ℕ) → (m : ℕ) × (take n (rows_of journal (take k line)) ≡ rows_of journal (take m line)) = λ n.
    elim (cases_lt k n) [
      | inl more ↦ (k, take_all n (rows_of journal (take k line)) (omega (arith, length-rows_of journal (take k line), length-take k line)))
      | inr within ↦ (n, rows_of-take journal (take k line) n ∙ ap (rows_of journal) (take-take n k line within))
    ] in
    record {
      few = kept.few;
      in_range = kept.in_range;
      never_negative = λ n key.
          subst (λ (rows : List Row). value_out rows key ≤ value_in rows key) (sym (front n).1)
          ((Kept-take formula journal line (front n).0 legal).costed.covered key);
      not_large = λ n key.
          subst (λ (rows : List Row). value_in rows key ≤ value_out rows key + MAX_VALUE) (sym (front n).1)
          (not_large formula journal (rows_of journal (take (front n).0 line)) key legal.affordable (Kept-take formula journal line (front n).0 legal));
    }

pub AreBounded-rows_of : (formula : ℕ → Method) (journal : List Record) (line : List Entry) → IsLegalLine formula journal line → AreBounded (rows_of journal line)
AreBounded-rows_of formula journal line legal =
    subst (λ (es : List Entry). AreBounded (rows_of journal es)) (take_all (length line) line (omega arith)) (AreBounded-take_line formula journal line (length line) legal)

units_left-by : (rows : List Row) (e : Entry) (cause : Cause) → IsLinkedBy (map row_entry rows) e cause → HasUnitsLeftBy rows e cause
units_left-by rows e (Receipt amount) linked = tt
units_left-by rows e (Issue sold) linked = tt
units_left-by rows e TransferLeaves linked = tt
units_left-by rows e TransferEnters linked = tt
units_left-by rows e (CustomerReturn target issued) linked = linked.2
units_left-by rows e (SupplierReturn target amount got) linked = linked.1

-- what a movement of a legal line needs to be valued after those before it
pub record CanBeValued (journal : List Record) (before : List Row) (e : Entry) : Type 0 where
  pub bounded : AreBounded before
  pub held : HasUnits before e
  pub left : HasUnitsLeft before e
  pub small : has_value_in_range (valued journal before e) ≡ true
  pub lines : (line : Target) → line_cost before line ≤ MAX_VALUE

-- where a movement leaves, it is worth what its units cost
pub value-is_cost : (journal : List Record) (before : List Row) (e : Entry) → not (is_entering e.place.side) ≡ true → value_of (valued journal before e) ≡ cost_by e.method before e
value-is_cost journal before e leaves = value-of_leaving journal before (valued journal before e) e.cause refl e.sides leaves

take-past : (past : List Entry) (rest : List Entry) → take (length past) (past ++ rest) ≡ past
take-past past rest = take-append-le (length past) past rest (omega arith) ∙ take_all (length past) past (omega arith)

All-from : (P : Entry → Type 0) (past rest : List Entry) → All P (past ++ rest) → All P rest
All-from P [] rest all = all
All-from P (e ∷ past) rest all = All-from P past rest (All-tail P e (past ++ rest) all)

pub CanBeValued-at : (formula : ℕ → Method) (journal : List Record) (past : List Entry) (e : Entry) (rest : List Entry) → IsLegalLine formula journal (past ++ e ∷ rest) → CanBeValued journal (rows_of journal past) e
CanBeValued-at formula journal past e rest legal =
    let rows = rows_of journal past in
    let front = take-past past (e ∷ rest) in
    let kept : Kept formula journal rows = subst (λ (es : List Entry). Kept formula journal (rows_of journal es)) front (Kept-take formula journal (past ++ e ∷ rest) (length past) legal) in
    let movements : map row_entry rows ≡ past = map-value_all journal [] past in
    let linked : IsLinked (map row_entry rows) e = subst (λ (es : List Entry). IsLinked es e) (sym movements) (AreLinkedAfter-at [] past e rest legal.linked) in
    let next : IsNext formula journal rows e =
    next-from formula journal rows e rest legal.affordable (omega (arith, length-rows_of journal past, length-append past (e ∷ rest), legal.few))
    (All-from (HasFormula formula) past (e ∷ rest) legal.formulas)
    (subst IsEnough (sym (ap (λ (es : List Entry). es ++ e ∷ rest) movements)) legal.enough) linked in
    record {
      bounded = subst (λ (es : List Entry). AreBounded (rows_of journal es)) front (AreBounded-take_line formula journal (past ++ e ∷ rest) (length past) legal);
      held = next.units;
      left = units_left-by rows e e.cause linked.0;
      small = value-in_range formula journal rows e kept next;
      lines = kept.lines;
    }
