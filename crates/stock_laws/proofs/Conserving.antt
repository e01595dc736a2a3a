-- One more movement, worth what its cause says, keeps value: by each cause.
use Rattle.std.proofs.Common.{◌≡◌, ℕ, ◌+◌, ◌<◌, ◌≤◌, Bool, true, false, cond, ◌&&◌, not, List, [], ◌∷◌, ◌++◌, map, refl, sym, ap, ◌∙◌, subst, arith}
use Rattle.std.proofs.lemmas.Bool.{false≢true}
use Rattle.stock_nums.specs.Causes.{has_amounts_in_range, has_side, enters_by, is_entering}
use Rattle.stock_nums.specs.Part.{part}
use Rattle.stock_nums.specs.Targets.{is_same_target}
use Rattle.stock_nums.specs.declared.cause.Cause.{Cause}
use Rattle.stock_nums.specs.declared.cause.Cause.TheVariants.{Receipt, Issue, TransferLeaves, TransferEnters, CustomerReturn, SupplierReturn}
use Rattle.stock_nums.specs.declared.cause.Target.{Target}
use Rattle.stock_nums.specs.declared.entry.Entry.{Entry}
use Rattle.stock_nums.specs.declared.entry.Row.{Row}
use Rattle.stock_nums.specs.declared.place.Side.{Side}
use Rattle.stock_nums.specs.declared.place.Side.TheVariants.{Leaves, Enters}
use Rattle.stock_nums.proofs.LineQuantities.{is_line_quantity-is}
use Rattle.stock_nums.proofs.PartLemmas.{part-split, part-le}
use Rattle.stock_model.specs.Conservation.{is_sale, is_sent, is_arrived, is_customer_return}
use Rattle.stock_model.specs.Enough.{entry_key}
use Rattle.stock_model.specs.Returns.{is_return_of}
use Rattle.stock_model.specs.Sums.{row_entry, value_of, stock_value}
use Rattle.stock_model.specs.Values.{own_line, leaves_by, line_cost, returned_before}
use Rattle.stock_laws.proofs.Linked.{is_same_target-true, is_same_target-refl, line_by, is_line, but_line, IsNone, LeavesBy, IsIssuedBy, IsIssuedSo, IsLinkedBy}
use Rattle.stock_model.proofs.Pairwise.{Each}
use Rattle.stock_laws.proofs.TestedSums.{counted, counted-fails, tested-none_of, tested-same_of}
use Rattle.stock_laws.proofs.Conserved.{Conserved, row_by, worth, worth-next, worth-split, keys-entered, keys-left, line_cost-next, returned-next, all-last, parts-stay, parts-left}

-- a side is the one that the cause has
pub side-is : (enters : Bool) (side : Side) → cond enters (is_entering side) (not (is_entering side)) ≡ true → is_entering side ≡ enters
side-is true side h = h
side-is false Leaves h = refl
side-is false Enters h = absurd (false≢true h)

-- a kind of cause by which goods of the movement's own line leave
abbrev IsLeaving : (Cause → Bool) → Type 0
IsLeaving kind = (cause : Cause) → kind cause ≡ true → (enters_by cause ≡ false) × ((e : Entry) → line_by e cause ≡ own_line e)

sent-leaves : IsLeaving is_sent
sent-leaves (Receipt amount) h = absurd (false≢true h)
sent-leaves (Issue sold) h = absurd (false≢true h)
sent-leaves TransferLeaves h = (refl, λ e. refl)
sent-leaves TransferEnters h = absurd (false≢true h)
sent-leaves (CustomerReturn target issued) h = absurd (false≢true h)
sent-leaves (SupplierReturn target amount received) h = absurd (false≢true h)

sale-leaves : IsLeaving is_sale
sale-leaves (Receipt amount) h = absurd (false≢true h)
sale-leaves (Issue sold) h = (refl, λ e. refl)
sale-leaves TransferLeaves h = absurd (false≢true h)
sale-leaves TransferEnters h = absurd (false≢true h)
sale-leaves (CustomerReturn target issued) h = absurd (false≢true h)
sale-leaves (SupplierReturn target amount received) h = absurd (false≢true h)

-- the tests of what leaves by a line and of such movements of it agree
agree : (own enters kind same : Bool) → (own ≡ true → enters ≡ false → kind ≡ true) → (kind ≡ true → enters ≡ false) → (kind ≡ true → same ≡ own) → (own && not enters) ≡ (kind && same)
agree own true true same only leaves line = absurd (false≢true (sym (leaves refl)))
agree true false true same only leaves line = sym (line refl)
agree false false true same only leaves line = sym (line refl)
agree true false false same only leaves line = absurd (false≢true (only refl refl))
agree true true false same only leaves line = refl
agree false enters false same only leaves line = refl

agree-row : (kind : Cause → Bool) → IsLeaving kind → (line : Target) (row : Row) → LeavesBy kind line row.entry → leaves_by line row ≡ row_by kind (is_line line) row
agree-row kind leaving line row only =
    let e = row.entry in
    agree (is_same_target (own_line e) line) (is_entering e.place.side) (kind e.cause) (is_same_target (line_by e e.cause) line) only
    (λ h. side-is (enters_by e.cause) e.place.side e.sides ∙ (leaving e.cause h).0)
    (λ h. ap (λ (l : Target). is_same_target l line) ((leaving e.cause h).1 e))

-- what such movements of a line are worth is the line's cost, where only they leave by it
line_cost-by : (kind : Cause → Bool) → IsLeaving kind → (rows : List Row) (line : Target) → Each (LeavesBy kind line) (map row_entry rows) → line_cost rows line ≡ worth kind (is_line line) rows
line_cost-by kind leaving rows line only =
    tested-same_of row_entry value_of (leaves_by line) (row_by kind (is_line line)) (LeavesBy kind line) (agree-row kind leaving line) rows only

none-by : (kind : Cause → Bool) (rows : List Row) (line : Target) → Each (IsNone kind line) (map row_entry rows) → worth kind (is_line line) rows ≡ 0
none-by kind rows line none = tested-none_of row_entry value_of (row_by kind (is_line line)) (IsNone kind line) (λ row h. h) rows none

-- the value of a row, by its cause
abbrev pub IsWorthBy : List Row → Row → Cause → Type 0
IsWorthBy rows row (Receipt amount) = Unit {0}
IsWorthBy rows row (Issue sold) = value_of row ≤ stock_value rows (entry_key row.entry)
IsWorthBy rows row TransferLeaves = value_of row ≤ stock_value rows (entry_key row.entry)
IsWorthBy rows row TransferEnters = value_of row ≡ line_cost rows (own_line row.entry)
IsWorthBy rows row (CustomerReturn target issued) = value_of row ≡ part (line_cost rows target) (returned_before rows target) row.entry.qty.0 issued.0
IsWorthBy rows row (SupplierReturn target amount received) = value_of row ≤ stock_value rows (entry_key row.entry)

-- what is received changes nothing of lines
Conserved-received : (rows : List Row) (row : Row) (cause : Cause) → row.entry.cause ≡ cause → is_entering row.entry.place.side ≡ true
    → is_arrived cause ≡ false → is_customer_return cause ≡ false → ((line : Target) → is_return_of line cause ≡ false) → Conserved rows → Conserved (rows ++ row ∷ [])
Conserved-received rows row cause is enters stays keeps none conserved =
    let arrived : (test : Target → Bool) → worth is_arrived test (rows ++ row ∷ []) ≡ worth is_arrived test rows + 0 =
    λ test. worth-next is_arrived test rows row cause is ∙ ap (λ (b : Bool). worth is_arrived test rows + counted (b && test (line_by row.entry cause)) (value_of row)) stays in
    let came : (test : Target → Bool) → worth is_customer_return test (rows ++ row ∷ []) ≡ worth is_customer_return test rows + 0 =
    λ test. worth-next is_customer_return test rows row cause is ∙ ap (λ (b : Bool). worth is_customer_return test rows + counted (b && test (line_by row.entry cause)) (value_of row)) keeps in
    record {
      keys = keys-entered rows row conserved.keys enters;
      transfers = λ test. omega (arith, arrived test, worth-next is_sent test rows row cause is, conserved.transfers test);
      sales = λ test. omega (arith, came test, worth-next is_sale test rows row cause is, conserved.sales test);
      parts = λ line issued some all.
          parts-stay rows row line issued conserved some all (came (is_line line))
          (line_cost-next rows row line true enters ∙ ap (λ (n : ℕ). line_cost rows line + n) (counted-fails (is_same_target (own_line row.entry) line) (value_of row)))
          (returned-next rows row line cause is ∙ ap (λ (b : Bool). returned_before rows line + counted b row.entry.qty.0) (none line));
    }

-- what leaves is worth no more than its stock
Conserved-left : (rows : List Row) (row : Row) (cause : Cause) → row.entry.cause ≡ cause → is_entering row.entry.place.side ≡ false
    → is_arrived cause ≡ false → is_customer_return cause ≡ false → Each (IsNone is_customer_return (own_line row.entry)) (map row_entry rows)
    → value_of row ≤ stock_value rows (entry_key row.entry) → Conserved rows → Conserved (rows ++ row ∷ [])
Conserved-left rows row cause is leaves stays keeps none few conserved =
    let arrived : (test : Target → Bool) → worth is_arrived test (rows ++ row ∷ []) ≡ worth is_arrived test rows + 0 =
    λ test. worth-next is_arrived test rows row cause is ∙ ap (λ (b : Bool). worth is_arrived test rows + counted (b && test (line_by row.entry cause)) (value_of row)) stays in
    let came : (test : Target → Bool) → worth is_customer_return test (rows ++ row ∷ []) ≡ worth is_customer_return test rows + 0 =
    λ test. worth-next is_customer_return test rows row cause is ∙ ap (λ (b : Bool). worth is_customer_return test rows + counted (b && test (line_by row.entry cause)) (value_of row)) keeps in
    record {
      keys = keys-left rows row conserved.keys leaves few;
      transfers = λ test. omega (arith, arrived test, worth-next is_sent test rows row cause is, conserved.transfers test);
      sales = λ test. omega (arith, came test, worth-next is_sale test rows row cause is, conserved.sales test);
      parts = λ line issued some all. parts-left rows row cause line issued conserved is keeps leaves none some all;
    }

-- what arrives by a transfer is worth what left by it
Conserved-arrived : (rows : List Row) (row : Row) → row.entry.cause ≡ TransferEnters → is_entering row.entry.place.side ≡ true
    → Each (IsNone is_arrived (own_line row.entry)) (map row_entry rows) → Each (LeavesBy is_sent (own_line row.entry)) (map row_entry rows)
    → value_of row ≡ line_cost rows (own_line row.entry) → Conserved rows → Conserved (rows ++ row ∷ [])
Conserved-arrived rows row is enters none only value conserved =
    let own = own_line row.entry in
    let nothing = none-by is_arrived rows own none in
    let cost = line_cost-by is_sent sent-leaves rows own only in
    let step : (test : Target → Bool) (b : Bool) → test own ≡ b → worth is_arrived test rows + counted (true && b) (value_of row) ≤ worth is_sent test rows =
    λ test b. elim b as (λ v. test own ≡ v → worth is_arrived test rows + counted (true && v) (value_of row) ≤ worth is_sent test rows) [
      | true ↦ λ passes.
          omega (arith, worth-split is_arrived test own rows passes, worth-split is_sent test own rows passes, conserved.transfers (but_line test own), nothing, cost, value)
      | false ↦ λ fails. omega (arith, conserved.transfers test)
    ] in
    record {
      keys = keys-entered rows row conserved.keys enters;
      transfers = λ test. omega (arith, worth-next is_arrived test rows row TransferEnters is, worth-next is_sent test rows row TransferEnters is, step test (test own) refl);
      sales = λ test. omega (arith, worth-next is_customer_return test rows row TransferEnters is, worth-next is_sale test rows row TransferEnters is, conserved.sales test);
      parts = λ line issued some all.
          parts-stay rows row line issued conserved some all (worth-next is_customer_return (is_line line) rows row TransferEnters is)
          (line_cost-next rows row line true enters ∙ ap (λ (n : ℕ). line_cost rows line + n) (counted-fails (is_same_target own line) (value_of row)))
          (returned-next rows row line TransferEnters is);
    }

-- the parts of a line's cost, with one more of them
parts-more : (cost back q whole : ℕ) → 0 < whole → part cost 0 back whole + part cost back q whole ≡ part cost 0 (back + q) whole
parts-more cost back q whole some =
    let first : 0 + back ≡ back = omega arith in
    ap (λ (n : ℕ). part cost 0 back whole + part cost n q whole) (sym first) ∙ part-split cost 0 back q whole some

-- what a customer gives back is worth its part of what the sale cost
Conserved-returned : (rows : List Row) (row : Row) (target : Target) (issued : ℕ) (cause : Cause) → row.entry.cause ≡ cause
    → is_arrived cause ≡ false → is_customer_return cause ≡ true → ((line : Target) → is_return_of line cause ≡ is_same_target target line)
    → ((e : Entry) → line_by e cause ≡ target) → ((line : Target) (n : ℕ) → IsIssuedBy line n cause → is_same_target target line ≡ true → issued ≡ n)
    → is_entering row.entry.place.side ≡ true → 0 < issued → Each (IsIssuedSo target issued) (map row_entry rows) → Each (LeavesBy is_sale target) (map row_entry rows)
    → returned_before rows target + row.entry.qty.0 ≤ issued
    → value_of row ≡ part (line_cost rows target) (returned_before rows target) row.entry.qty.0 issued → Conserved rows → Conserved (rows ++ row ∷ [])
Conserved-returned rows row target issued cause is stays gives_back returns of_target says enters some so only within value conserved =
    let next = rows ++ row ∷ [] in
    let cost = line_cost-by is_sale sale-leaves rows target only in
    let before = conserved.parts target issued some so in
    let joined : worth is_customer_return (is_line target) rows + value_of row ≡ part (line_cost rows target) 0 (returned_before rows target + row.entry.qty.0) issued =
    ap (λ (n : ℕ). n + value_of row) before
    ∙ ap (λ (n : ℕ). part (line_cost rows target) 0 (returned_before rows target) issued + n) value
    ∙ parts-more (line_cost rows target) (returned_before rows target) row.entry.qty.0 issued some in
    let most : part (line_cost rows target) 0 (returned_before rows target + row.entry.qty.0) issued ≤ line_cost rows target =
    part-le (line_cost rows target) 0 (returned_before rows target + row.entry.qty.0) issued (omega (arith, within)) in
    let step : (test : Target → Bool) (b : Bool) → test target ≡ b → worth is_customer_return test rows + counted b (value_of row) ≤ worth is_sale test rows =
    λ test b. elim b as (λ v. test target ≡ v → worth is_customer_return test rows + counted v (value_of row) ≤ worth is_sale test rows) [
      | true ↦ λ passes.
          omega (arith, worth-split is_customer_return test target rows passes, worth-split is_sale test target rows passes, conserved.sales (but_line test target), joined, most, cost)
      | false ↦ λ fails. omega (arith, conserved.sales test)
    ] in
    let arrived : (test : Target → Bool) → worth is_arrived test next ≡ worth is_arrived test rows + 0 =
    λ test. worth-next is_arrived test rows row cause is ∙ ap (λ (b : Bool). worth is_arrived test rows + counted (b && test (line_by row.entry cause)) (value_of row)) stays in
    let came : (test : Target → Bool) → worth is_customer_return test next ≡ worth is_customer_return test rows + counted (test target) (value_of row) =
    λ test. worth-next is_customer_return test rows row cause is
    ∙ ap (λ (b : Bool). worth is_customer_return test rows + counted (b && test (line_by row.entry cause)) (value_of row)) gives_back
    ∙ ap (λ (l : Target). worth is_customer_return test rows + counted (test l) (value_of row)) (of_target row.entry) in
    let back : (line : Target) → returned_before next line ≡ returned_before rows line + counted (is_same_target target line) row.entry.qty.0 =
    λ line. returned-next rows row line cause is ∙ ap (λ (b : Bool). returned_before rows line + counted b row.entry.qty.0) (returns line) in
    let stays_cost : (line : Target) → line_cost next line ≡ line_cost rows line + 0 =
    λ line. line_cost-next rows row line true enters ∙ ap (λ (n : ℕ). line_cost rows line + n) (counted-fails (is_same_target (own_line row.entry) line) (value_of row)) in
    let own : worth is_customer_return (is_line target) next ≡ part (line_cost next target) 0 (returned_before next target) issued =
    let same = is_same_target-refl target in
    let units : returned_before next target ≡ returned_before rows target + row.entry.qty.0 =
    back target ∙ ap (λ (b : Bool). returned_before rows target + counted b row.entry.qty.0) same in
    let costs : line_cost next target ≡ line_cost rows target = omega (arith, stays_cost target) in
    came (is_line target) ∙ ap (λ (b : Bool). worth is_customer_return (is_line target) rows + counted b (value_of row)) same ∙ joined
    ∙ sym (ap (λ (n : ℕ). part n 0 (returned_before next target) issued) costs ∙ ap (λ (n : ℕ). part (line_cost rows target) 0 n issued) units) in
    record {
      keys = keys-entered rows row conserved.keys enters;
      transfers = λ test. omega (arith, arrived test, worth-next is_sent test rows row cause is, conserved.transfers test);
      sales = λ test. omega (arith, came test, worth-next is_sale test rows row cause is, step test (test target) refl);
      parts = λ line n some_n all.
          let by : (b : Bool) → is_same_target target line ≡ b → worth is_customer_return (is_line line) next ≡ part (line_cost next line) 0 (returned_before next line) n =
          λ b. elim b as (λ v. is_same_target target line ≡ v → worth is_customer_return (is_line line) next ≡ part (line_cost next line) 0 (returned_before next line) n) [
            | true ↦ λ same.
                let issued_n : issued ≡ n = says line n (subst (IsIssuedBy line n) is (all-last (IsIssuedSo line n) rows row all)) same in
                subst (λ (l : Target). worth is_customer_return (is_line l) next ≡ part (line_cost next l) 0 (returned_before next l) n) (is_same_target-true target line same)
                (subst (λ (m : ℕ). worth is_customer_return (is_line target) next ≡ part (line_cost next target) 0 (returned_before next target) m) issued_n own)
            | false ↦ λ other.
                parts-stay rows row line n conserved some_n all
                (came (is_line line) ∙ ap (λ (b : Bool). worth is_customer_return (is_line line) rows + counted b (value_of row)) other)
                (stays_cost line)
                (back line ∙ ap (λ (b : Bool). returned_before rows line + counted b row.entry.qty.0) other)
          ] in
          by (is_same_target target line) refl;
    }

-- one more movement, by its cause
pub Conserved-next : (rows : List Row) (row : Row) (cause : Cause) → row.entry.cause ≡ cause → has_side cause row.entry.place.side ≡ true → has_amounts_in_range cause ≡ true
    → IsLinkedBy (map row_entry rows) row.entry cause → IsWorthBy rows row cause → Conserved rows → Conserved (rows ++ row ∷ [])
Conserved-next rows row (Receipt amount) is side amounts linked value conserved =
    Conserved-received rows row (Receipt amount) is (side-is true row.entry.place.side side) refl refl (λ line. refl) conserved
Conserved-next rows row (Issue sold) is side amounts linked value conserved =
    Conserved-left rows row (Issue sold) is (side-is false row.entry.place.side side) refl refl linked value conserved
Conserved-next rows row TransferLeaves is side amounts linked value conserved =
    Conserved-left rows row TransferLeaves is (side-is false row.entry.place.side side) refl refl linked value conserved
Conserved-next rows row TransferEnters is side amounts linked value conserved =
    Conserved-arrived rows row is (side-is true row.entry.place.side side) linked.0 linked.1 value conserved
Conserved-next rows row (CustomerReturn target issued) is side amounts linked value conserved =
    Conserved-returned rows row target issued.0 (CustomerReturn target issued) is refl refl (λ line. refl) (λ e. refl) (λ line n says same. says same)
    (side-is true row.entry.place.side side) (is_line_quantity-is issued.0 amounts).0 linked.0 linked.1 linked.2 value conserved
Conserved-next rows row (SupplierReturn target amount received) is side amounts linked value conserved =
    Conserved-left rows row (SupplierReturn target amount received) is (side-is false row.entry.place.side side) refl refl linked.0 value conserved
