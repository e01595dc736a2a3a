-- Rows of which there was always enough hold their units, and of no key more value left than entered.
use Rattle.std.proofs.Common.{◌≡◌, ℕ, ◌+◌, ◌≤◌, Bool, true, false, cond, ◌&&◌, not, List, [], ◌∷◌, ◌++◌, length, take, map, filter, sum_by, fold, refl, sym, ap, ◌∙◌, subst, arith, length-append, append_assoc, unsigned_abs}
use Rattle.std.specs.List.{All}
use Rattle.std.proofs.lemmas.Bool.{false≢true}
use Rattle.std.proofs.lemmas.List.{append-nil, take-append-le, take_all, map-append}
use Rattle.std.proofs.lemmas.List.Elements.{All-nil, All-cons, All-head, All-tail, All-append}
use Rattle.std.proofs.lemmas.List.Sums.{sum_by-cons}
use Rattle.stock_nums.proofs.HalfUp.{half_up-all, half_up-le}
use Rattle.stock_nums.specs.FirstIn.{next_cost}
use Rattle.stock_nums.specs.HalfUp.{half_up}
use Rattle.stock_nums.specs.Causes.{has_side, is_entering}
use Rattle.stock_nums.specs.declared.cause.Cause.{Cause}
use Rattle.stock_nums.specs.declared.cause.Cause.TheVariants.{Receipt, Issue, TransferLeaves, TransferEnters, CustomerReturn, SupplierReturn}
use Rattle.stock_nums.specs.declared.cause.Method.{Method}
use Rattle.stock_nums.specs.declared.cause.Method.TheVariants.{Fifo, Average}
use Rattle.stock_nums.specs.declared.entry.Entry.{Entry}
use Rattle.stock_nums.specs.declared.entry.Key.{Key}
use Rattle.stock_nums.specs.declared.entry.Row.{Row}
use Rattle.stock_model.specs.declared.records.Record.{Record}
use Rattle.stock_model.specs.Enough.{entry_key, enters_under, leaves_under, entry_units, entered, departed, IsEnough}
use Rattle.stock_model.specs.Formulas.{HasFormula}
use Rattle.stock_model.specs.Replay.{valued, value_next, rows_of}
use Rattle.stock_model.specs.Sums.{row_entry, is_of, enters_at, leaves_at, units_of, value_of, quantity_in, quantity_out, value_in, value_out, stock_units, stock_value}
use Rattle.stock_model.specs.Values.{average_cost, fifo_cost, cost_by, value_by, HasUnits}
use Rattle.stock_laws.proofs.Enough.{is_same_key-true, entered-own, departed-own}
use Rattle.stock_laws.proofs.FirstOut.{IsFirstOut-nil, IsFirstOutAt, IsFirstOutAt-next, LeavesFirst, next_cost-le}
use Rattle.stock_laws.proofs.TestedSums.{both-first, both-second, tested-snoc}
use Rattle.stock_laws.proofs.Conserving.{side-is}

-- the sums of units over rows are those over their movements
quantity_in-entered : (rows : List Row) (key : Key) → quantity_in rows key ≡ entered (map row_entry rows) key
quantity_in-entered [] key = refl
quantity_in-entered (row ∷ rows) key =
    elim (enters_at key row) as (λ b. sum_by units_of (cond b (row ∷ filter (enters_at key) rows) (filter (enters_at key) rows)) ≡ sum_by entry_units (cond b (row.entry ∷ filter (enters_under key) (map row_entry rows)) (filter (enters_under key) (map row_entry rows)))) [
      | true ↦ sum_by-cons units_of row (filter (enters_at key) rows)
          ∙ ap (λ (n : ℕ). row.entry.qty.0 + n) (quantity_in-entered rows key)
          ∙ sym (sum_by-cons entry_units row.entry (filter (enters_under key) (map row_entry rows)))
      | false ↦ quantity_in-entered rows key
    ]

quantity_out-departed : (rows : List Row) (key : Key) → quantity_out rows key ≡ departed (map row_entry rows) key
quantity_out-departed [] key = refl
quantity_out-departed (row ∷ rows) key =
    elim (leaves_at key row) as (λ b. sum_by units_of (cond b (row ∷ filter (leaves_at key) rows) (filter (leaves_at key) rows)) ≡ sum_by entry_units (cond b (row.entry ∷ filter (leaves_under key) (map row_entry rows)) (filter (leaves_under key) (map row_entry rows)))) [
      | true ↦ sum_by-cons units_of row (filter (leaves_at key) rows)
          ∙ ap (λ (n : ℕ). row.entry.qty.0 + n) (quantity_out-departed rows key)
          ∙ sym (sum_by-cons entry_units row.entry (filter (leaves_under key) (map row_entry rows)))
      | false ↦ quantity_out-departed rows key
    ]

turned : (b : Bool) → not b ≡ true → b ≡ false
turned true h = absurd (false≢true h)
turned false h = refl

-- where there is always enough, a movement that leaves has its units
pub HasUnits-enough : (rows : List Row) (e : Entry) (rest : List Entry) → IsEnough (map row_entry rows ++ e ∷ rest) → HasUnits rows e
HasUnits-enough rows e rest enough leaves =
    let past = map row_entry rows in
    let key = entry_key e in
    let front : take (length past + 1) (past ++ e ∷ rest) ≡ past ++ e ∷ [] =
    ap (take (length past + 1)) (sym (append_assoc past (e ∷ []) rest))
    ∙ take-append-le (length past + 1) (past ++ e ∷ []) rest (omega (arith, length-append past (e ∷ [])))
    ∙ take_all (length past + 1) (past ++ e ∷ []) (omega (arith, length-append past (e ∷ []))) in
    let covered : departed (past ++ e ∷ []) key ≤ entered (past ++ e ∷ []) key = subst (λ (es : List Entry). departed es key ≤ entered es key) front (enough (length past + 1) key) in
    let out : departed (past ++ e ∷ []) key ≡ departed past key + e.qty.0 = departed-own past e ∙ ap (λ (b : Bool). departed past key + cond b e.qty.0 0) leaves in
    let enters : is_entering e.place.side ≡ false = turned (is_entering e.place.side) leaves in
    let in_ : entered (past ++ e ∷ []) key ≡ entered past key + 0 = entered-own past e ∙ ap (λ (b : Bool). entered past key + cond b e.qty.0 0) enters in
    omega (arith, covered, out, in_, quantity_in-entered rows key, quantity_out-departed rows key)

-- what the units of a movement cost is at most what the stock is worth
average_cost-le : (rows : List Row) (e : Entry) → e.qty.0 ≤ stock_units rows (entry_key e) → average_cost rows e ≤ stock_value rows (entry_key e)
average_cost-le rows e held = half_up-le (stock_value rows (entry_key e)) e.qty.0 (stock_units rows (entry_key e)) (omega (arith, e.quantity.0, held)) held

-- an item that is costed first in, first out has let its units go so
abbrev pub IsOutBy : Method → List Row → Key → Type 0
IsOutBy Fifo rows key = IsFirstOutAt rows key
IsOutBy Average rows key = Unit {0}

-- by either formula, what the units of a movement cost is at most what the stock is worth
pub cost_by-le : (rows : List Row) (e : Entry) (method : Method) → IsOutBy method rows (entry_key e) → e.qty.0 ≤ stock_units rows (entry_key e) → cost_by method rows e ≤ stock_value rows (entry_key e)
cost_by-le rows e Fifo out held = next_cost-le (filter (enters_at (entry_key e)) rows) (filter (leaves_at (entry_key e)) rows) e.qty.0 out
cost_by-le rows e Average out held = average_cost-le rows e held

-- an item's formula decides what is known of its units
abbrev pub IsCostedAt : Method → List Row → Key → Type 0
IsCostedAt Fifo rows key = IsFirstOutAt rows key
IsCostedAt Average rows key = quantity_in rows key ≡ quantity_out rows key → value_in rows key ≡ value_out rows key

pub both : {a b : Bool} → a ≡ true → b ≡ true → (a && b) ≡ true
both {a} {b} h k = grind arith

IsOutBy-costed : (method : Method) (rows : List Row) (key : Key) → IsCostedAt method rows key → IsOutBy method rows key
IsOutBy-costed Fifo rows key costed = costed
IsOutBy-costed Average rows key costed = tt

-- the units that entered or left, with one more row
quantity_in-next : (rows : List Row) (row : Row) (key : Key) → quantity_in (rows ++ row ∷ []) key ≡ quantity_in rows key + cond (enters_at key row) (units_of row) 0
quantity_in-next rows row key = tested-snoc units_of (enters_at key) rows row

quantity_out-next : (rows : List Row) (row : Row) (key : Key) → quantity_out (rows ++ row ∷ []) key ≡ quantity_out rows key + cond (leaves_at key row) (units_of row) 0
quantity_out-next rows row key = tested-snoc units_of (leaves_at key) rows row

value_in-next : (rows : List Row) (row : Row) (key : Key) → value_in (rows ++ row ∷ []) key ≡ value_in rows key + cond (enters_at key row) (value_of row) 0
value_in-next rows row key = tested-snoc value_of (enters_at key) rows row

value_out-next : (rows : List Row) (row : Row) (key : Key) → value_out (rows ++ row ∷ []) key ≡ value_out rows key + cond (leaves_at key row) (value_of row) 0
value_out-next rows row key = tested-snoc value_of (leaves_at key) rows row

-- a row of the key is under its own key
own_key : (row : Row) (key : Key) → is_of key row ≡ true → entry_key row.entry ≡ key
own_key row key is = is_same_key-true (entry_key row.entry) key is

-- what is held stays held
held-next : (rows : List Row) (row : Row) (key : Key) → quantity_out rows key ≤ quantity_in rows key → HasUnits rows row.entry → quantity_out (rows ++ row ∷ []) key ≤ quantity_in (rows ++ row ∷ []) key
held-next rows row key held units =
    let step : (b : Bool) → leaves_at key row ≡ b → quantity_out rows key + cond b (units_of row) 0 ≤ quantity_in rows key =
    λ b. elim b as (λ v. leaves_at key row ≡ v → quantity_out rows key + cond v (units_of row) 0 ≤ quantity_in rows key) [
      | true ↦ λ is.
          let own = own_key row key (both-first (is_of key row) (not (is_entering row.entry.place.side)) is) in
          let few : units_of row ≤ stock_units rows key = subst (λ (k : Key). units_of row ≤ stock_units rows k) own (units (both-second (is_of key row) (not (is_entering row.entry.place.side)) is)) in
          omega (arith, few, held)
      | false ↦ λ is. omega (arith, held)
    ] in
    omega (arith, quantity_in-next rows row key, quantity_out-next rows row key, step (leaves_at key row) refl)

-- the value of a row that leaves is the cost of its units
pub value-of_leaving : (journal : List Record) (rows : List Row) (row : Row) (cause : Cause) → row.worth.value.0 ≡ value_by journal rows row.entry cause → has_side cause row.entry.place.side ≡ true
    → not (is_entering row.entry.place.side) ≡ true → value_of row ≡ cost_by row.entry.method rows row.entry
value-of_leaving journal rows row (Receipt amount) value sides leaves = absurd (false≢true (ap not (sym (side-is true row.entry.place.side sides)) ∙ leaves))
value-of_leaving journal rows row (Issue sold) value sides leaves = ap unsigned_abs value
value-of_leaving journal rows row TransferLeaves value sides leaves = ap unsigned_abs value
value-of_leaving journal rows row TransferEnters value sides leaves = absurd (false≢true (ap not (sym (side-is true row.entry.place.side sides)) ∙ leaves))
value-of_leaving journal rows row (CustomerReturn target issued) value sides leaves = absurd (false≢true (ap not (sym (side-is true row.entry.place.side sides)) ∙ leaves))
value-of_leaving journal rows row (SupplierReturn target amount got) value sides leaves = ap unsigned_abs value

-- a row whose value is that of its movement's, which has its item's formula
pub record IsValued (formula : ℕ → Method) (rows : List Row) (row : Row) : Type 0 where
  pub value : not (is_entering row.entry.place.side) ≡ true → value_of row ≡ cost_by row.entry.method rows row.entry
  pub has : HasFormula formula row.entry
  pub units : HasUnits rows row.entry

-- of a key that is costed first in, first out, it leaves so
LeavesFirst-next : (formula : ℕ → Method) (rows : List Row) (row : Row) (key : Key) → formula key.item.0 ≡ Fifo → quantity_out rows key ≤ quantity_in rows key → IsValued formula rows row → LeavesFirst rows key row
LeavesFirst-next formula rows row key is_fifo held valued passes =
    let own = own_key row key (both-first (is_of key row) (not (is_entering row.entry.place.side)) passes) in
    let leaves = both-second (is_of key row) (not (is_entering row.entry.place.side)) passes in
    let few : units_of row ≤ stock_units rows key = subst (λ (k : Key). units_of row ≤ stock_units rows k) own (valued.units leaves) in
    let method : row.entry.method ≡ Fifo = valued.has ∙ ap (λ (k : Key). formula k.item.0) own ∙ is_fifo in
    let cost : value_of row ≡ fifo_cost rows row.entry = valued.value leaves ∙ ap (λ (m : Method). cost_by m rows row.entry) method in (
      omega (arith, few, held, row.entry.quantity.0),
      cost ∙ ap (λ (k : Key). next_cost units_of value_of (filter (enters_at k) rows) (quantity_out rows k) (units_of row)) own,
    )

-- of a key that is costed by the moving average, the last units take all the value that is left
empty-next : (formula : ℕ → Method) (rows : List Row) (row : Row) (key : Key) → formula key.item.0 ≡ Average → value_out rows key ≤ value_in rows key → quantity_out rows key ≤ quantity_in rows key
    → IsCostedAt Average rows key → IsValued formula rows row → IsCostedAt Average (rows ++ row ∷ []) key
empty-next formula rows row key is_average covered held costed valued none =
    let qi = quantity_in-next rows row key in
    let qo = quantity_out-next rows row key in
    let vi = value_in-next rows row key in
    let vo = value_out-next rows row key in
    let step : (own enters : Bool) → is_of key row ≡ own → is_entering row.entry.place.side ≡ enters → value_in (rows ++ row ∷ []) key ≡ value_out (rows ++ row ∷ []) key =
    λ own enters. elim own as (λ o. is_of key row ≡ o → is_entering row.entry.place.side ≡ enters → value_in (rows ++ row ∷ []) key ≡ value_out (rows ++ row ∷ []) key) [
      | false ↦ λ is side.
          let e : enters_at key row ≡ false = ap (λ (b : Bool). b && is_entering row.entry.place.side) is in
          let l : leaves_at key row ≡ false = ap (λ (b : Bool). b && not (is_entering row.entry.place.side)) is in
          let qi' : quantity_in (rows ++ row ∷ []) key ≡ quantity_in rows key + 0 = qi ∙ ap (λ (b : Bool). quantity_in rows key + cond b (units_of row) 0) e in
          let qo' : quantity_out (rows ++ row ∷ []) key ≡ quantity_out rows key + 0 = qo ∙ ap (λ (b : Bool). quantity_out rows key + cond b (units_of row) 0) l in
          let vi' : value_in (rows ++ row ∷ []) key ≡ value_in rows key + 0 = vi ∙ ap (λ (b : Bool). value_in rows key + cond b (value_of row) 0) e in
          let vo' : value_out (rows ++ row ∷ []) key ≡ value_out rows key + 0 = vo ∙ ap (λ (b : Bool). value_out rows key + cond b (value_of row) 0) l in
          omega (arith, vi', vo', costed (omega (arith, qi', qo', none)))
      | true ↦ λ is. elim enters as (λ v. is_entering row.entry.place.side ≡ v → value_in (rows ++ row ∷ []) key ≡ value_out (rows ++ row ∷ []) key) [
        | true ↦ λ side.
            let e : enters_at key row ≡ true = ap (λ (b : Bool). b && is_entering row.entry.place.side) is ∙ side in
            let l : leaves_at key row ≡ false = ap (λ (b : Bool). b && not (is_entering row.entry.place.side)) is ∙ ap not side in
            let qi' : quantity_in (rows ++ row ∷ []) key ≡ quantity_in rows key + units_of row = qi ∙ ap (λ (b : Bool). quantity_in rows key + cond b (units_of row) 0) e in
            let qo' : quantity_out (rows ++ row ∷ []) key ≡ quantity_out rows key + 0 = qo ∙ ap (λ (b : Bool). quantity_out rows key + cond b (units_of row) 0) l in
            absurd (omega (arith, qi', qo', none, held, row.entry.quantity.0))
        | false ↦ λ side.
            let e : enters_at key row ≡ false = ap (λ (b : Bool). b && is_entering row.entry.place.side) is ∙ side in
            let l : leaves_at key row ≡ true = ap (λ (b : Bool). b && not (is_entering row.entry.place.side)) is ∙ ap not side in
            let qi' : quantity_in (rows ++ row ∷ []) key ≡ quantity_in rows key + 0 = qi ∙ ap (λ (b : Bool). quantity_in rows key + cond b (units_of row) 0) e in
            let qo' : quantity_out (rows ++ row ∷ []) key ≡ quantity_out rows key + units_of row = qo ∙ ap (λ (b : Bool). quantity_out rows key + cond b (units_of row) 0) l in
            let vi' : value_in (rows ++ row ∷ []) key ≡ value_in rows key + 0 = vi ∙ ap (λ (b : Bool). value_in rows key + cond b (value_of row) 0) e in
            let vo' : value_out (rows ++ row ∷ []) key ≡ value_out rows key + value_of row = vo ∙ ap (λ (b : Bool). value_out rows key + cond b (value_of row) 0) l in
            let mine = own_key row key is in
            let method : row.entry.method ≡ Average = valued.has ∙ ap (λ (k : Key). formula k.item.0) mine ∙ is_average in
            let last : units_of row ≡ stock_units rows key = omega (arith, qi', qo', none) in
            let cost : value_of row ≡ stock_value rows key =
            valued.value (ap not side) ∙ ap (λ (m : Method). cost_by m rows row.entry) method
            ∙ ap (λ (k : Key). half_up (stock_value rows k) (units_of row) (stock_units rows k)) mine
            ∙ ap (λ (q : ℕ). half_up (stock_value rows key) q (stock_units rows key)) last
            ∙ half_up-all (stock_value rows key) (stock_units rows key) in
            omega (arith, vi', vo', cost, covered)
      ]
    ] in
    step (is_of key row) (is_entering row.entry.place.side) refl refl

costed-next : (formula : ℕ → Method) (rows : List Row) (row : Row) (key : Key) (method : Method) → formula key.item.0 ≡ method → value_out rows key ≤ value_in rows key → quantity_out rows key ≤ quantity_in rows key
    → IsCostedAt method rows key → IsValued formula rows row → IsCostedAt method (rows ++ row ∷ []) key
costed-next formula rows row key Fifo is covered held costed valued =
    IsFirstOutAt-next rows row key costed (LeavesFirst-next formula rows row key is held valued)
costed-next formula rows row key Average is covered held costed valued = empty-next formula rows row key is covered held costed valued

-- a row that leaves has no more than its stock is worth, and one that enters what its cause says
pub leaving-worth : (journal : List Record) (rows : List Row) (row : Row) (cause : Cause) → row.worth.value.0 ≡ value_by journal rows row.entry cause → has_side cause row.entry.place.side ≡ true
    → HasUnits rows row.entry → IsOutBy row.entry.method rows (entry_key row.entry) → not (is_entering row.entry.place.side) ≡ true → value_of row ≤ stock_value rows (entry_key row.entry)
leaving-worth journal rows row cause value sides held out leaves =
    subst (λ (n : ℕ). n ≤ stock_value rows (entry_key row.entry)) (sym (value-of_leaving journal rows row cause value sides leaves))
    (cost_by-le rows row.entry row.entry.method out (held leaves))

costed-nil : (method : Method) (key : Key) → IsCostedAt method [] key
costed-nil Fifo key = IsFirstOut-nil
costed-nil Average key = λ none. refl

-- rows of one formula for each item, of which there was always enough: no more left than entered, in units and in value, and
-- units left by their formula
pub record AreCosted (formula : ℕ → Method) (rows : List Row) : Type 0 where
  pub formulas : All (λ row. HasFormula formula row.entry) rows
  pub held : (key : Key) → quantity_out rows key ≤ quantity_in rows key
  pub covered : (key : Key) → value_out rows key ≤ value_in rows key
  pub costed : (key : Key) → IsCostedAt (formula key.item.0) rows key

pub AreCosted-nil : (formula : ℕ → Method) → AreCosted formula []
AreCosted-nil formula =
    record {
      formulas = All-nil (λ row. HasFormula formula row.entry);
      held = λ key. omega arith;
      covered = λ key. omega arith;
      costed = λ key. costed-nil (formula key.item.0) key;
    }

-- what is known of the units of a movement's own key
pub IsOutBy-own : (formula : ℕ → Method) (rows : List Row) (e : Entry) → AreCosted formula rows → HasFormula formula e → IsOutBy e.method rows (entry_key e)
IsOutBy-own formula rows e are has =
    IsOutBy-costed e.method rows (entry_key e) (subst (λ (m : Method). IsCostedAt m rows (entry_key e)) (sym has) (are.costed (entry_key e)))

-- a row that leaves takes no more value than there is
covered-next : (rows : List Row) (row : Row) (key : Key) → value_out rows key ≤ value_in rows key
    → (not (is_entering row.entry.place.side) ≡ true → value_of row ≤ stock_value rows (entry_key row.entry)) → value_out (rows ++ row ∷ []) key ≤ value_in (rows ++ row ∷ []) key
covered-next rows row key covered worth =
    let step : (b : Bool) → leaves_at key row ≡ b → value_out rows key + cond b (value_of row) 0 ≤ value_in rows key =
    λ b. elim b as (λ v. leaves_at key row ≡ v → value_out rows key + cond v (value_of row) 0 ≤ value_in rows key) [
      | true ↦ λ is.
          let own = own_key row key (both-first (is_of key row) (not (is_entering row.entry.place.side)) is) in
          let little : value_of row ≤ stock_value rows key = subst (λ (k : Key). value_of row ≤ stock_value rows k) own (worth (both-second (is_of key row) (not (is_entering row.entry.place.side)) is)) in
          omega (arith, little, covered)
      | false ↦ λ is. omega (arith, covered)
    ] in
    omega (arith, value_in-next rows row key, value_out-next rows row key, step (leaves_at key row) refl)

-- one more movement, valued from the rows
pub AreCosted-next : (formula : ℕ → Method) (journal : List Record) (rows : List Row) (e : Entry) → AreCosted formula rows → HasFormula formula e → HasUnits rows e → AreCosted formula (value_next journal rows e)
AreCosted-next formula journal rows e are has units =
    let row = valued journal rows e in
    let is_valued : IsValued formula rows row =
    record { value = value-of_leaving journal rows row e.cause refl e.sides; has = has; units = units } in
    let worth : not (is_entering e.place.side) ≡ true → value_of row ≤ stock_value rows (entry_key e) =
    leaving-worth journal rows row e.cause refl e.sides units (IsOutBy-own formula rows e are has) in
    record {
      formulas = All-append (λ row. HasFormula formula row.entry) rows (row ∷ []) are.formulas (All-cons (λ row. HasFormula formula row.entry) row [] has (All-nil (λ row. HasFormula formula row.entry)));
      held = λ key. held-next rows row key (are.held key) units;
      covered = λ key. covered-next rows row key (are.covered key) worth;
      costed = λ key. costed-next formula rows row key (formula key.item.0) refl (are.covered key) (are.held key) (are.costed key) is_valued;
    }

-- the rows of a line have its movements
pub map-value_all : (journal : List Record) (rows : List Row) (es : List Entry) → map row_entry (fold (value_next journal) rows es) ≡ map row_entry rows ++ es
map-value_all journal rows [] = sym (append-nil (map row_entry rows))
map-value_all journal rows (e ∷ es) =
    map-value_all journal (value_next journal rows e) es
    ∙ ap (λ (front : List Entry). front ++ es) (map-append row_entry rows (valued journal rows e ∷ []))
    ∙ append_assoc (map row_entry rows) (e ∷ []) es

AreCosted-all : (formula : ℕ → Method) (journal : List Record) (rows : List Row) (es : List Entry) → AreCosted formula rows → All (HasFormula formula) es → IsEnough (map row_entry rows ++ es)
    → AreCosted formula (fold (value_next journal) rows es)
AreCosted-all formula journal rows [] are all enough = are
AreCosted-all formula journal rows (e ∷ es) are all enough =
    let grown : map row_entry (value_next journal rows e) ≡ map row_entry rows ++ e ∷ [] = map-append row_entry rows (valued journal rows e ∷ []) in
    AreCosted-all formula journal (value_next journal rows e) es
    (AreCosted-next formula journal rows e are (All-head (HasFormula formula) e es all) (HasUnits-enough rows e es enough))
    (All-tail (HasFormula formula) e es all)
    (subst IsEnough (sym (ap (λ (front : List Entry). front ++ es) grown ∙ append_assoc (map row_entry rows) (e ∷ []) es)) enough)

-- so it is with every line of which there is always enough
pub AreCosted-rows_of : (formula : ℕ → Method) (journal : List Record) (line : List Entry) → All (HasFormula formula) line → IsEnough line → AreCosted formula (rows_of journal line)
AreCosted-rows_of formula journal line all enough = AreCosted-all formula journal [] line (AreCosted-nil formula) all enough
