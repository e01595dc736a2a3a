-- What is summed over the rows of one item in one warehouse is what the definitions sum over all rows.
use Rattle.std.proofs.Common.{◌≡◌, ℕ, zero, suc, ◌+◌, ◌-◌, ◌≤◌, Bool, true, false, cond, ◌&&◌, List, [], ◌∷◌, ◌++◌, take, get_or, map, filter, sum_by, Some, refl, sym, ap, ap₂, ◌∙◌, subst, arith}
use Rattle.std.specs.Prelude.{All, nat_eq, pos, unwrap_or}
use Rattle.std.specs.List.{list_all, find}
use Rattle.std.specs.Option.{option_map}
use Rattle.std.proofs.lemmas.List.Elements.{All-map, All-head, All-tail, filter-append, filter_passes}
use Rattle.std.proofs.lemmas.List.Sums.{length-filter, count_by-le-length}
use Rattle.stock_nums.specs.FirstIn.{layers_left}
use Rattle.stock_nums.specs.declared.cause.Method.{Method}
use Rattle.stock_nums.specs.declared.cause.Method.TheVariants.{Fifo, Average}
use Rattle.stock_nums.specs.declared.entry.Key.{Key}
use Rattle.stock_nums.specs.declared.entry.Row.{Row}
use Rattle.stock_nums.specs.declared.head.Head.{Head}
use Rattle.stock_nums.specs.declared.limits.TheConstants.{MAX_VALUE}
use Rattle.stock_model.specs.declared.sheet_rows.LayerRow.{LayerRow}
use Rattle.stock_model.specs.declared.sheet_rows.LedgerRow.{LedgerRow}
use Rattle.stock_model.specs.Bounds.{has_value_in_range, AreBounded}
use Rattle.stock_model.specs.Layers.{row_method, formula_at, layer_row, average_row, layer_rows_by, layer_rows}
use Rattle.stock_model.specs.LedgerSheets.{ledger_row, ledger_after, ledger_rows}
use Rattle.stock_model.specs.Masters.{code_of}
use Rattle.stock_model.specs.Sheets.{balance_row}
use Rattle.stock_model.specs.Sums.{is_of, enters_at, leaves_at, units_of, value_of, quantity_in, quantity_out, value_in, value_out, stock_units, stock_value}
use Rattle.stock_laws.proofs.CostedRows.{both}
use Rattle.stock_laws.proofs.TestedSums.{both-first, both-second}
use Rattle.valuation_report.specs.GroupRows.{held_row, remainder_row, whole_of, own_method, layers_by, own_layers, movement_of, movement_row, movements_after, own_movements}
use Rattle.valuation_report.specs.Groups.{group_of}
use Rattle.valuation_report.specs.Holdings.{row_enters, row_leaves, units_in, units_out, worth_in, worth_out, units_held, worth_held, holding_of, AreHeld}

-- two tests together are the one after the other
filter-both : {X : Type 0} (p q : X → Bool) (xs : List X) → filter (λ x. p x && q x) xs ≡ filter q (filter p xs)
filter-both p q [] = refl
filter-both p q (x ∷ xs) =
    elim (p x) as (λ b. cond (b && q x) (x ∷ filter (λ y. p y && q y) xs) (filter (λ y. p y && q y) xs) ≡ filter q (cond b (x ∷ filter p xs) (filter p xs))) [
      | true ↦ ap (λ ys. cond (q x) (x ∷ ys) ys) (filter-both p q xs)
      | false ↦ filter-both p q xs
    ]

-- the first of what is left stands among the first
take-filter : {X : Type 0} (p : X → Bool) (xs : List X) (n : ℕ) → (m : ℕ) × (take n (filter p xs) ≡ filter p (take m xs))
take-filter p [] zero = (0, refl)
take-filter p [] (suc n) = (0, refl)
take-filter p (x ∷ xs) zero = (0, refl)
take-filter {X = X} p (x ∷ xs) (suc n) =
    let step : (b : Bool) → p x ≡ b → (m : ℕ) × (take (suc n) (cond b (x ∷ filter p xs) (filter p xs)) ≡ filter p (take m (x ∷ xs))) =
    λ b. elim b as (λ v. p x ≡ v → (m : ℕ) × (take (suc n) (cond v (x ∷ filter p xs) (filter p xs)) ≡ filter p (take m (x ∷ xs)))) [
      | true ↦ λ is. let found = take-filter p xs n in
          (suc found.0, ap (λ (ys : List X). x ∷ ys) found.1 ∙ ap (λ (v : Bool). cond v (x ∷ filter p (take found.0 xs)) (filter p (take found.0 xs))) (sym is))
      | false ↦ λ is. let found = take-filter p xs (suc n) in
          (suc found.0, found.1 ∙ ap (λ (v : Bool). cond v (x ∷ filter p (take found.0 xs)) (filter p (take found.0 xs))) (sym is))
    ] in
    step (p x) refl

list_all-filter : {X : Type 0} (p q : X → Bool) (xs : List X) → list_all q xs ≡ true → list_all q (filter p xs) ≡ true
list_all-filter p q [] h = refl
list_all-filter p q (x ∷ xs) h =
    elim (p x) as (λ b. list_all q (cond b (x ∷ filter p xs) (filter p xs)) ≡ true) [
      | true ↦ both (both-first (q x) (list_all q xs) h) (list_all-filter p q xs (both-second (q x) (list_all q xs) h))
      | false ↦ list_all-filter p q xs (both-second (q x) (list_all q xs) h)
    ]

module _ (key : Key) where
  abbrev own : List Row → List Row
  own rows = filter (is_of key) rows

  enters-own : (rows : List Row) → filter row_enters (own rows) ≡ filter (enters_at key) rows
  enters-own rows = sym (filter-both (is_of key) row_enters rows)

  leaves-own : (rows : List Row) → filter row_leaves (own rows) ≡ filter (leaves_at key) rows
  leaves-own rows = sym (filter-both (is_of key) row_leaves rows)

  units_in-own : (rows : List Row) → units_in (own rows) ≡ quantity_in rows key
  units_in-own rows = ap (sum_by units_of) (enters-own rows)

  units_out-own : (rows : List Row) → units_out (own rows) ≡ quantity_out rows key
  units_out-own rows = ap (sum_by units_of) (leaves-own rows)

  worth_in-own : (rows : List Row) → worth_in (own rows) ≡ value_in rows key
  worth_in-own rows = ap (sum_by value_of) (enters-own rows)

  worth_out-own : (rows : List Row) → worth_out (own rows) ≡ value_out rows key
  worth_out-own rows = ap (sum_by value_of) (leaves-own rows)

  units_held-own : (rows : List Row) → units_held (own rows) ≡ stock_units rows key
  units_held-own rows = ap₂ (λ (a b : ℕ). a - b) (units_in-own rows) (units_out-own rows)

  worth_held-own : (rows : List Row) → worth_held (own rows) ≡ stock_value rows key
  worth_held-own rows = ap₂ (λ (a b : ℕ). a - b) (worth_in-own rows) (worth_out-own rows)

  -- where all rows are bounded, its own are
  pub AreHeld-own : (rows : List Row) → AreBounded rows → AreHeld (own rows)
  AreHeld-own rows bounded = record {
    few = omega (arith, length-filter (is_of key) rows, count_by-le-length (is_of key) rows, bounded.few);
    in_range = list_all-filter (is_of key) has_value_in_range rows bounded.in_range;
    never_negative = λ n.
        let front = take-filter (is_of key) rows n in
        subst (λ (some : List Row). worth_out some ≤ worth_in some) (sym front.1)
        (omega (arith, worth_in-own (take front.0 rows), worth_out-own (take front.0 rows), bounded.never_negative front.0 key));
    not_large = λ n.
        let front = take-filter (is_of key) rows n in
        subst (λ (some : List Row). worth_in some ≤ worth_out some + MAX_VALUE) (sym front.1)
        (omega (arith, worth_in-own (take front.0 rows), worth_out-own (take front.0 rows), bounded.not_large front.0 key));
  }

  -- the balance sheet's row
  pub held_row-is : (heads : List Head) (rows : List Row) → held_row (code_of heads key.item.0) (code_of heads key.store.0) (holding_of (own rows)) ≡ balance_row heads rows key
  held_row-is heads rows i =
      record {
        item = code_of heads key.item.0;
        store = code_of heads key.store.0;
        qty = record { 0 = units_held-own rows i };
        value = record { 0 = pos (worth_held-own rows i) };
      }

  -- the first of its own rows is the first of the rows that is its own
  own_method-is : (rows : List Row) → own_method (own rows) ≡ formula_at rows key
  own_method-is [] = refl
  own_method-is (row ∷ rows) =
      elim (is_of key row) as (λ b. own_method (cond b (row ∷ own rows) (own rows)) ≡ unwrap_or (option_map row_method (cond b (Some row) (find (is_of key) rows))) Average) [
        | true ↦ refl
        | false ↦ own_method-is rows
      ]

  whole-is : (heads : List Head) (rows : List Row) → remainder_row (code_of heads key.item.0) (code_of heads key.store.0) (whole_of (own rows)) ≡ average_row heads rows key
  whole-is heads rows i =
      record {
        item = code_of heads key.item.0;
        store = code_of heads key.store.0;
        voucher = record { 0 = 0 };
        line = 0;
        qty = record { 0 = units_held-own rows i };
        value = record { 0 = pos (worth_held-own rows i) };
      }

  -- the layers sheet's rows, by either formula
  layers_by-is : (method : Method) (heads : List Head) (rows : List Row) → layers_by method (code_of heads key.item.0) (code_of heads key.store.0) (own rows) ≡ layer_rows_by method heads rows key
  layers_by-is Fifo heads rows = ap₂ (λ (entered : List Row) (taken : ℕ). map (layer_row heads key) (layers_left units_of entered taken)) (enters-own rows) (units_out-own rows)
  layers_by-is Average heads rows = ap₂ (λ (units : ℕ) (row : LayerRow). cond (nat_eq units 0) [] (row ∷ [])) (units_held-own rows) (whole-is heads rows)

  pub own_layers-is : (heads : List Head) (rows : List Row) → own_layers (code_of heads key.item.0) (code_of heads key.store.0) (own rows) ≡ layer_rows heads rows key
  own_layers-is heads rows =
      ap (λ (method : Method). layers_by method (code_of heads key.item.0) (code_of heads key.store.0) (own rows)) (own_method-is rows) ∙ layers_by-is (formula_at rows key) heads rows

  -- of rows that are all its own the sums are those of its own
  stock-is : (rows : List Row) → own rows ≡ rows → (units_held rows ≡ stock_units rows key) × (worth_held rows ≡ stock_value rows key)
  stock-is rows all = (ap units_held (sym all) ∙ units_held-own rows, ap worth_held (sym all) ∙ worth_held-own rows)

  movement-is : (heads : List Head) (upto : List Row) (row : Row) → own upto ≡ upto
      → movement_row (code_of heads key.item.0) (code_of heads key.store.0) (movement_of row (holding_of upto)) ≡ ledger_row heads key upto row
  movement-is heads upto row all i =
      record {
        item = code_of heads key.item.0;
        store = code_of heads key.store.0;
        at = row.entry.place.moment;
        voucher = row.entry.place.voucher;
        line = row.entry.place.line;
        side = row.entry.place.side;
        qty = row.entry.qty;
        value = record { 0 = pos (value_of row) };
        stock = record { 0 = (stock-is upto all).0 i };
        worth = record { 0 = pos ((stock-is upto all).1 i) };
      }

  movements-are : (heads : List Head) (before rows : List Row) → own before ≡ before → All (λ row. is_of key row ≡ true) rows
      → movements_after (code_of heads key.item.0) (code_of heads key.store.0) before rows ≡ ledger_after heads key before rows
  movements-are heads before [] all_before all = refl
  movements-are heads before (row ∷ rows) all_before all =
      let upto : own (before ++ row ∷ []) ≡ before ++ row ∷ [] =
      filter-append (is_of key) before (row ∷ [])
      ∙ ap (λ (b : Bool). own before ++ cond b (row ∷ []) []) (All-head (λ r. is_of key r ≡ true) row rows all)
      ∙ ap (λ (front : List Row). front ++ row ∷ []) all_before in
      let first : movement_row (code_of heads key.item.0) (code_of heads key.store.0) (movement_of row (holding_of (before ++ row ∷ []))) ≡ ledger_row heads key (before ++ row ∷ []) row =
      movement-is heads (before ++ row ∷ []) row upto in
      ap₂ (λ (shown : LedgerRow) (others : List LedgerRow). shown ∷ others) first
      (movements-are heads (before ++ row ∷ []) rows upto (All-tail (λ r. is_of key r ≡ true) row rows all))

  pub own_movements-are : (heads : List Head) (rows : List Row) → own_movements (code_of heads key.item.0) (code_of heads key.store.0) (own rows) ≡ ledger_rows heads rows key
  own_movements-are heads rows = movements-are heads [] (own rows) refl (filter_passes (is_of key) rows)

-- each of the groups of bounded rows
pub AreHeld-each : (rows : List Row) (keys : List Key) → AreBounded rows → All (λ group. AreHeld group.rows) (map (group_of rows) keys)
AreHeld-each rows keys bounded = All-map (λ group. AreHeld group.rows) (group_of rows) keys (λ k d within. AreHeld-own (get_or keys k d) rows bounded)
