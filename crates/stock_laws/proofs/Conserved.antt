-- No value leaves but what entered, and none comes back but what left.
use Rattle.std.proofs.Common.{◌≡◌, ℕ, ◌+◌, ◌<◌, ◌≤◌, Bool, true, false, ◌&&◌, not, List, [], ◌∷◌, ◌++◌, map, filter, sum_by, refl, sym, ap, ◌∙◌, subst, arith}
use Rattle.std.proofs.lemmas.Bool.{false≢true}
use Rattle.std.proofs.lemmas.List.{map-append}
use Rattle.stock_nums.specs.Causes.{is_entering}
use Rattle.stock_nums.specs.Part.{part}
use Rattle.stock_nums.specs.Targets.{is_same_target}
use Rattle.stock_nums.specs.declared.cause.Cause.{Cause}
use Rattle.stock_nums.specs.declared.cause.Cause.TheVariants.{Receipt, Issue, TransferLeaves, TransferEnters, CustomerReturn, SupplierReturn}
use Rattle.stock_nums.specs.declared.cause.Target.{Target}
use Rattle.stock_nums.specs.declared.entry.Entry.{Entry}
use Rattle.stock_nums.specs.declared.entry.Key.{Key}
use Rattle.stock_nums.specs.declared.entry.Row.{Row}
use Rattle.stock_nums.proofs.PartLemmas.{part-none}
use Rattle.stock_model.specs.Conservation.{is_sale, is_sent, is_arrived, is_customer_return}
use Rattle.stock_model.specs.Enough.{entry_key, is_same_key, entry_units}
use Rattle.stock_model.specs.Returns.{is_return_of, returns_of, returned}
use Rattle.stock_model.specs.Sums.{row_entry, enters_at, leaves_at, value_of, value_in, value_out, stock_value}
use Rattle.stock_model.specs.Values.{own_line, leaves_by, line_cost, returned_before}
use Rattle.stock_laws.proofs.Enough.{is_same_key-true}
use Rattle.stock_laws.proofs.Linked.{is_same_target-true, line_by, is_by, is_line, but_line, IsNone, IsIssuedBy, IsIssuedSo}
use Rattle.stock_model.proofs.Pairwise.{Each}
use Rattle.stock_laws.proofs.TestedSums.{counted, counted-fails, counted-parts, counted-parts_after, tested-snoc, tested-split, tested-none, tested-none_of, Each-front, Each-last, Each-both}

-- the row is of such a key, and enters, or leaves
abbrev pub enters_where : (Key → Bool) → Row → Bool
enters_where test row = test (entry_key row.entry) && is_entering row.entry.place.side

abbrev pub leaves_where : (Key → Bool) → Row → Bool
leaves_where test row = test (entry_key row.entry) && not (is_entering row.entry.place.side)

abbrev pub key_in : (Key → Bool) → List Row → ℕ
key_in test rows = sum_by value_of (filter (enters_where test) rows)

abbrev pub key_out : (Key → Bool) → List Row → ℕ
key_out test rows = sum_by value_of (filter (leaves_where test) rows)

-- the keys that pass but for one
abbrev pub but_key : (Key → Bool) → Key → Key → Bool
but_key test key k = test k && not (is_same_key k key)

-- the row has a cause of this kind and moves goods of such a line
abbrev pub row_by : (Cause → Bool) → (Target → Bool) → Row → Bool
row_by kind test row = is_by kind test row.entry

-- what such rows are worth together
abbrev pub worth : (Cause → Bool) → (Target → Bool) → List Row → ℕ
worth kind test rows = sum_by value_of (filter (row_by kind test) rows)

-- of any keys no more value left than entered; of any lines no more arrived than was sent, and no more came back than was
-- sold; and what came back of a line is the part of its cost that the returned units have
pub record Conserved (rows : List Row) : Type 0 where
  pub keys : (test : Key → Bool) → key_out test rows ≤ key_in test rows
  pub transfers : (test : Target → Bool) → worth is_arrived test rows ≤ worth is_sent test rows
  pub sales : (test : Target → Bool) → worth is_customer_return test rows ≤ worth is_sale test rows
  pub parts : (line : Target) (issued : ℕ) → 0 < issued → Each (IsIssuedSo line issued) (map row_entry rows)
      → worth is_customer_return (is_line line) rows ≡ part (line_cost rows line) 0 (returned_before rows line) issued

pub Conserved-nil : Conserved []
Conserved-nil =
    record {
      keys = λ test. omega arith;
      transfers = λ test. omega arith;
      sales = λ test. omega arith;
      parts = λ line issued some all. sym (part-none 0 0 issued);
    }

-- the sums with one more row
pub worth-next : (kind : Cause → Bool) (test : Target → Bool) (rows : List Row) (row : Row) (cause : Cause) → row.entry.cause ≡ cause
    → worth kind test (rows ++ row ∷ []) ≡ worth kind test rows + counted (kind cause && test (line_by row.entry cause)) (value_of row)
worth-next kind test rows row cause is =
    tested-snoc value_of (row_by kind test) rows row
    ∙ ap (λ (c : Cause). worth kind test rows + counted (kind c && test (line_by row.entry c)) (value_of row)) is

key_in-next : (test : Key → Bool) (rows : List Row) (row : Row) (enters : Bool) → is_entering row.entry.place.side ≡ enters
    → key_in test (rows ++ row ∷ []) ≡ key_in test rows + counted (test (entry_key row.entry) && enters) (value_of row)
key_in-next test rows row enters is =
    tested-snoc value_of (enters_where test) rows row
    ∙ ap (λ (b : Bool). key_in test rows + counted (test (entry_key row.entry) && b) (value_of row)) is

key_out-next : (test : Key → Bool) (rows : List Row) (row : Row) (enters : Bool) → is_entering row.entry.place.side ≡ enters
    → key_out test (rows ++ row ∷ []) ≡ key_out test rows + counted (test (entry_key row.entry) && not enters) (value_of row)
key_out-next test rows row enters is =
    tested-snoc value_of (leaves_where test) rows row
    ∙ ap (λ (b : Bool). key_out test rows + counted (test (entry_key row.entry) && not b) (value_of row)) is

-- the sums over keys part at one key
pub key_in-split : (test : Key → Bool) (key : Key) (rows : List Row) → test key ≡ true → key_in test rows ≡ key_in (but_key test key) rows + value_in rows key
key_in-split test key rows passes =
    tested-split value_of (enters_where test) (enters_where (but_key test key)) (enters_at key)
    (λ row. counted-parts (test (entry_key row.entry)) (is_same_key (entry_key row.entry) key) (is_entering row.entry.place.side) (value_of row)
    (λ same. ap test (is_same_key-true (entry_key row.entry) key same) ∙ passes)) rows

pub key_out-split : (test : Key → Bool) (key : Key) (rows : List Row) → test key ≡ true → key_out test rows ≡ key_out (but_key test key) rows + value_out rows key
key_out-split test key rows passes =
    tested-split value_of (leaves_where test) (leaves_where (but_key test key)) (leaves_at key)
    (λ row. counted-parts (test (entry_key row.entry)) (is_same_key (entry_key row.entry) key) (not (is_entering row.entry.place.side)) (value_of row)
    (λ same. ap test (is_same_key-true (entry_key row.entry) key same) ∙ passes)) rows

-- the sums over lines part at one line
pub worth-split : (kind : Cause → Bool) (test : Target → Bool) (line : Target) (rows : List Row) → test line ≡ true
    → worth kind test rows ≡ worth kind (but_line test line) rows + worth kind (is_line line) rows
worth-split kind test line rows passes =
    tested-split value_of (row_by kind test) (row_by kind (but_line test line)) (row_by kind (is_line line))
    (λ row. counted-parts_after (kind row.entry.cause) (test (line_by row.entry row.entry.cause)) (is_same_target (line_by row.entry row.entry.cause) line) (value_of row)
    (λ same. ap test (is_same_target-true (line_by row.entry row.entry.cause) line same) ∙ passes)) rows

-- a row that enters
pub keys-entered : (rows : List Row) (row : Row) → ((test : Key → Bool) → key_out test rows ≤ key_in test rows) → is_entering row.entry.place.side ≡ true
    → (test : Key → Bool) → key_out test (rows ++ row ∷ []) ≤ key_in test (rows ++ row ∷ [])
keys-entered rows row keys enters test =
    omega (arith, key_in-next test rows row true enters, key_out-next test rows row true enters, counted-fails (test (entry_key row.entry)) (value_of row), keys test)

-- of a key no more value left than entered
pub value_out-le_in : (rows : List Row) → ((test : Key → Bool) → key_out test rows ≤ key_in test rows) → (key : Key) → value_out rows key ≤ value_in rows key
value_out-le_in rows keys key = keys (λ k. is_same_key k key)

-- a row that leaves with no more than the stock of its key is worth
pub keys-left : (rows : List Row) (row : Row) → ((test : Key → Bool) → key_out test rows ≤ key_in test rows) → is_entering row.entry.place.side ≡ false
    → value_of row ≤ stock_value rows (entry_key row.entry)
    → (test : Key → Bool) → key_out test (rows ++ row ∷ []) ≤ key_in test (rows ++ row ∷ [])
keys-left rows row keys leaves few test =
    let key = entry_key row.entry in
    let step : (b : Bool) → test key ≡ b → key_out test rows + counted (b && true) (value_of row) ≤ key_in test rows =
    λ b. elim b as (λ v. test key ≡ v → key_out test rows + counted (v && true) (value_of row) ≤ key_in test rows) [
      | true ↦ λ is.
          omega (arith, key_in-split test key rows is, key_out-split test key rows is, keys (but_key test key), value_out-le_in rows keys key, few)
      | false ↦ λ is. omega (arith, keys test)
    ] in
    omega (arith, key_in-next test rows row false leaves, key_out-next test rows row false leaves, counted-fails (test key) (value_of row), step (test key) refl)

-- the cost of a line, and what was returned of it, with one more row
pub line_cost-next : (rows : List Row) (row : Row) (line : Target) (enters : Bool) → is_entering row.entry.place.side ≡ enters
    → line_cost (rows ++ row ∷ []) line ≡ line_cost rows line + counted (is_same_target (own_line row.entry) line && not enters) (value_of row)
line_cost-next rows row line enters is =
    tested-snoc value_of (leaves_by line) rows row
    ∙ ap (λ (b : Bool). line_cost rows line + counted (is_same_target (own_line row.entry) line && not b) (value_of row)) is

pub returned-next : (rows : List Row) (row : Row) (line : Target) (cause : Cause) → row.entry.cause ≡ cause
    → returned_before (rows ++ row ∷ []) line ≡ returned_before rows line + counted (is_return_of line cause) row.entry.qty.0
returned-next rows row line cause is =
    ap (λ (es : List Entry). returned es line) (map-append row_entry rows (row ∷ []))
    ∙ tested-snoc entry_units (returns_of line) (map row_entry rows) row.entry
    ∙ ap (λ (c : Cause). returned_before rows line + counted (is_return_of line c) row.entry.qty.0) is

-- what is known of all movements is known of the earlier ones and of the last
all-front : (P : Entry → Type 0) (rows : List Row) (row : Row) → Each P (map row_entry (rows ++ row ∷ [])) → Each P (map row_entry rows)
all-front P rows row all =
    Each-front P (map row_entry rows) (row.entry ∷ []) (subst (Each P) (map-append row_entry rows (row ∷ [])) all)

pub all-last : (P : Entry → Type 0) (rows : List Row) (row : Row) → Each P (map row_entry (rows ++ row ∷ [])) → P row.entry
all-last P rows row all =
    Each-last P (map row_entry rows) row.entry (subst (Each P) (map-append row_entry rows (row ∷ [])) all)

-- what came back of a line stays so where nothing of it moves
pub parts-stay : (rows : List Row) (row : Row) (line : Target) (issued : ℕ) → Conserved rows → 0 < issued → Each (IsIssuedSo line issued) (map row_entry (rows ++ row ∷ []))
    → worth is_customer_return (is_line line) (rows ++ row ∷ []) ≡ worth is_customer_return (is_line line) rows + 0
    → line_cost (rows ++ row ∷ []) line ≡ line_cost rows line + 0 → returned_before (rows ++ row ∷ []) line ≡ returned_before rows line + 0
    → worth is_customer_return (is_line line) (rows ++ row ∷ []) ≡ part (line_cost (rows ++ row ∷ []) line) 0 (returned_before (rows ++ row ∷ []) line) issued
parts-stay rows row line issued conserved some all came cost back =
    let cost' : line_cost (rows ++ row ∷ []) line ≡ line_cost rows line = omega (arith, cost) in
    let back' : returned_before (rows ++ row ∷ []) line ≡ returned_before rows line = omega (arith, back) in
    let came' : worth is_customer_return (is_line line) (rows ++ row ∷ []) ≡ worth is_customer_return (is_line line) rows = omega (arith, came) in
    came' ∙ conserved.parts line issued some (all-front (IsIssuedSo line issued) rows row all)
    ∙ sym (ap (λ (n : ℕ). part n 0 (returned_before (rows ++ row ∷ []) line) issued) cost' ∙ ap (λ (n : ℕ). part (line_cost rows line) 0 n issued) back')

-- a movement that no customer's return is returns nothing of a line of which only customers return goods
no_return : (line : Target) (issued : ℕ) (cause : Cause) → is_customer_return cause ≡ false → IsIssuedBy line issued cause → is_return_of line cause ≡ false
no_return line issued (Receipt amount) other so = refl
no_return line issued (Issue sold) other so = refl
no_return line issued TransferLeaves other so = refl
no_return line issued TransferEnters other so = refl
no_return line issued (CustomerReturn target n) other so = absurd (false≢true (sym other))
no_return line issued (SupplierReturn target amount n) other so = so

no_return-of : (line : Target) (issued : ℕ) (e : Entry) (cause : Cause) → (is_customer_return cause && is_same_target (line_by e cause) line) ≡ false → IsIssuedBy line issued cause → is_return_of line cause ≡ false
no_return-of line issued e (Receipt amount) none so = refl
no_return-of line issued e (Issue sold) none so = refl
no_return-of line issued e TransferLeaves none so = refl
no_return-of line issued e TransferEnters none so = refl
no_return-of line issued e (CustomerReturn target n) none so = none
no_return-of line issued e (SupplierReturn target amount n) none so = so

abbrev IsNoReturn : Target → Entry → Type 0
IsNoReturn line e = returns_of line e ≡ false

-- before a line's goods leave nothing of it came back
pub parts-left : (rows : List Row) (row : Row) (cause : Cause) (line : Target) (issued : ℕ) → Conserved rows → row.entry.cause ≡ cause → is_customer_return cause ≡ false
    → is_entering row.entry.place.side ≡ false → Each (IsNone is_customer_return (own_line row.entry)) (map row_entry rows)
    → 0 < issued → Each (IsIssuedSo line issued) (map row_entry (rows ++ row ∷ []))
    → worth is_customer_return (is_line line) (rows ++ row ∷ []) ≡ part (line_cost (rows ++ row ∷ []) line) 0 (returned_before (rows ++ row ∷ []) line) issued
parts-left rows row cause line issued conserved is other leaves none some all =
    let came : worth is_customer_return (is_line line) (rows ++ row ∷ []) ≡ worth is_customer_return (is_line line) rows + 0 =
    worth-next is_customer_return (is_line line) rows row cause is
    ∙ ap (λ (b : Bool). worth is_customer_return (is_line line) rows + counted (b && is_same_target (line_by row.entry cause) line) (value_of row)) other in
    let last : is_return_of line cause ≡ false =
    no_return line issued cause other (subst (IsIssuedBy line issued) is (all-last (IsIssuedSo line issued) rows row all)) in
    let back : returned_before (rows ++ row ∷ []) line ≡ returned_before rows line + 0 =
    returned-next rows row line cause is ∙ ap (λ (b : Bool). returned_before rows line + counted b row.entry.qty.0) last in
    let cost = line_cost-next rows row line false leaves in
    let step : (b : Bool) → is_same_target (own_line row.entry) line ≡ b
    → worth is_customer_return (is_line line) (rows ++ row ∷ []) ≡ part (line_cost (rows ++ row ∷ []) line) 0 (returned_before (rows ++ row ∷ []) line) issued =
    λ b. elim b as (λ v. is_same_target (own_line row.entry) line ≡ v
    → worth is_customer_return (is_line line) (rows ++ row ∷ []) ≡ part (line_cost (rows ++ row ∷ []) line) 0 (returned_before (rows ++ row ∷ []) line) issued) [
      | true ↦ λ own.
          let mine : Each (IsNone is_customer_return line) (map row_entry rows) =
          subst (λ (l : Target). Each (IsNone is_customer_return l) (map row_entry rows)) (is_same_target-true (own_line row.entry) line own) none in
          let before : worth is_customer_return (is_line line) rows ≡ 0 =
          tested-none_of row_entry value_of (row_by is_customer_return (is_line line)) (IsNone is_customer_return line) (λ r h. h) rows mine in
          let returns : Each (IsNoReturn line) (map row_entry rows) =
          Each-both (IsNone is_customer_return line) (IsIssuedSo line issued) (IsNoReturn line) (λ e h k. no_return-of line issued e e.cause h k) (map row_entry rows) mine
          (all-front (IsIssuedSo line issued) rows row all) in
          let units : returned_before rows line ≡ 0 = tested-none entry_units (returns_of line) (IsNoReturn line) (λ e h. h) (map row_entry rows) returns in
          let nothing : worth is_customer_return (is_line line) (rows ++ row ∷ []) ≡ 0 = omega (arith, came, before) in
          let no_units : returned_before (rows ++ row ∷ []) line ≡ 0 = omega (arith, back, units) in
          nothing ∙ sym (ap (λ (n : ℕ). part (line_cost (rows ++ row ∷ []) line) 0 n issued) no_units ∙ part-none (line_cost (rows ++ row ∷ []) line) 0 issued)
      | false ↦ λ not_own.
          parts-stay rows row line issued conserved some all came
          (cost ∙ ap (λ (b : Bool). line_cost rows line + counted (b && true) (value_of row)) not_own) back
    ] in
    step (is_same_target (own_line row.entry) line) refl
