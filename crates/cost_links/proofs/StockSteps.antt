-- What is held after one more row.
use Rattle.std.proofs.Common.{◌≡◌, ℕ, ◌+◌, ◌-◌, ◌<◌, ◌≤◌, Bool, true, false, cond, ◌&&◌, ◌||◌, not, List, [], ◌∷◌, ◌++◌, length, take, map, filter, sum_by, refl, sym, ap, ◌∙◌, subst, arith}
use Rattle.std.specs.List.{list_all, All}
use Rattle.std.proofs.lemmas.Bool.{false≢true}
use Rattle.std.proofs.lemmas.List.{map-append, take-append-le, take_all}
use Rattle.std.proofs.lemmas.List.Elements.{All-map}
use Rattle.std.proofs.lemmas.List.Folds.{list_all-append}
use Rattle.std.proofs.lemmas.List.Sums.{sum_by-cons}
use Rattle.stock_nums.specs.Causes.{is_entering}
use Rattle.stock_nums.specs.FirstIn.{next_cost, Layer, layers_left}
use Rattle.stock_nums.specs.declared.cause.Method.{Method}
use Rattle.stock_nums.specs.declared.cause.Method.TheVariants.{Fifo, Average}
use Rattle.stock_nums.specs.declared.entry.Key.{Key}
use Rattle.stock_nums.specs.declared.entry.Row.{Row}
use Rattle.stock_nums.specs.declared.limits.TheConstants.{MAX_VALUE}
use Rattle.stock_nums.proofs.FirstIn.{first_cost-map, next_cost-map, layers_left-snoc, layers_left-units, layers_left-value}
use Rattle.stock_model.specs.Bounds.{AreBounded}
use Rattle.stock_model.specs.Enough.{entry_key, is_same_key}
use Rattle.stock_model.specs.Sums.{is_of, enters_at, leaves_at, units_of, value_of, quantity_in, quantity_out, value_in, value_out}
use Rattle.stock_laws.proofs.Enough.{is_same_key-true, is_same_key-refl}
use Rattle.stock_laws.proofs.FirstOut.{filter-without, filter-with, units-some, IsFirstOutAt-next}
use Rattle.cost_formulas.specs.Held.{units_held, value_held, layers_cost, layers_after}
use Rattle.cost_formulas.specs.Lots.{Lot, lot_units, lot_value, untouched}
use Rattle.cost_formulas.proofs.LayersTaken.{layers_after-left, layers_cost-left}
use Rattle.cost_links.specs.declared.averages.Averages.{Averages}
use Rattle.cost_links.specs.declared.queues.Queues.{Queues}
use Rattle.cost_links.specs.Formulas.{is_same_method, has_formula, HasFormulaAt}
use Rattle.cost_links.specs.Rows.{row_lot}
use Rattle.cost_links.specs.Stocks.{IsAverageOf, AreLayersOf, AreStocksOf}
use Rattle.cost_links.specs.Tables.{Held, held_of, layers_of}
use Rattle.cost_links.proofs.LastOne.{sum_where-next}

-- what entered and what left under a key, with one more row that is of the key or not, and enters or not
pub record AreSumsWith (rows : List Row) (row : Row) (key : Key) (own enters : Bool) : Type 0 where
  pub units_in : quantity_in (rows ++ row ∷ []) key ≡ quantity_in rows key + cond (own && enters) (units_of row) 0
  pub units_out : quantity_out (rows ++ row ∷ []) key ≡ quantity_out rows key + cond (own && not enters) (units_of row) 0
  pub worth_in : value_in (rows ++ row ∷ []) key ≡ value_in rows key + cond (own && enters) (value_of row) 0
  pub worth_out : value_out (rows ++ row ∷ []) key ≡ value_out rows key + cond (own && not enters) (value_of row) 0

pub AreSumsWith-is : (rows : List Row) (row : Row) (key : Key) (own enters : Bool) → is_of key row ≡ own → is_entering row.entry.place.side ≡ enters → AreSumsWith rows row key own enters
AreSumsWith-is rows row key own enters is side =
    let passes_in : enters_at key row ≡ (own && enters) = ap (λ (b : Bool). b && is_entering row.entry.place.side) is ∙ ap (λ (b : Bool). own && b) side in
    let passes_out : leaves_at key row ≡ (own && not enters) = ap (λ (b : Bool). b && not (is_entering row.entry.place.side)) is ∙ ap (λ (b : Bool). own && not b) side in
    record {
      units_in = sum_where-next units_of (enters_at key) rows row ∙ ap (λ (b : Bool). quantity_in rows key + cond b (units_of row) 0) passes_in;
      units_out = sum_where-next units_of (leaves_at key) rows row ∙ ap (λ (b : Bool). quantity_out rows key + cond b (units_of row) 0) passes_out;
      worth_in = sum_where-next value_of (enters_at key) rows row ∙ ap (λ (b : Bool). value_in rows key + cond b (value_of row) 0) passes_in;
      worth_out = sum_where-next value_of (leaves_at key) rows row ∙ ap (λ (b : Bool). value_out rows key + cond b (value_of row) 0) passes_out;
    }

-- a row that is not of the key changes nothing, whether it enters or not
pub AreSumsWith-other : (rows : List Row) (row : Row) (key : Key) → is_of key row ≡ false → AreSumsWith rows row key false true
AreSumsWith-other rows row key is = by_cases (is_entering row.entry.place.side) refl
  where
    by_cases : (b : Bool) → is_entering row.entry.place.side ≡ b → AreSumsWith rows row key false true
    by_cases true side = AreSumsWith-is rows row key false true is side
    by_cases false side =
        let sums = AreSumsWith-is rows row key false false is side in
        record { units_in = sums.units_in; units_out = sums.units_out; worth_in = sums.worth_in; worth_out = sums.worth_out }

-- both tests pass
both_true : (a b : Bool) → (a && (b && true)) ≡ true → (a ≡ true) × (b ≡ true)
both_true true true h = (refl, refl)
both_true true false h = absurd (false≢true h)
both_true false b h = absurd (false≢true h)

is_same_method-true : (a b : Method) → is_same_method a b ≡ true → a ≡ b
is_same_method-true Fifo Fifo h = refl
is_same_method-true Average Average h = refl
is_same_method-true Fifo Average h = absurd (false≢true h)
is_same_method-true Average Fifo h = absurd (false≢true h)

-- where all rows have a formula, those before have it, and the last, where it is of the key
HasFormulaAt-front : (method : Method) (rows : List Row) (row : Row) (key : Key) → HasFormulaAt method (rows ++ row ∷ []) key → HasFormulaAt method rows key
HasFormulaAt-front method rows row key all =
    (both_true (list_all (has_formula method key) rows) (has_formula method key row) (sym (list_all-append (has_formula method key) rows (row ∷ [])) ∙ all)).0

HasFormulaAt-last : (method : Method) (rows : List Row) (row : Row) (key : Key) → HasFormulaAt method (rows ++ row ∷ []) key → is_of key row ≡ true → row.entry.method ≡ method
HasFormulaAt-last method rows row key all own =
    let last = (both_true (list_all (has_formula method key) rows) (has_formula method key row) (sym (list_all-append (has_formula method key) rows (row ∷ [])) ∙ all)).1 in
    is_same_method-true row.entry.method method (sym (ap (λ (b : Bool). not b || is_same_method row.entry.method method) own) ∙ last)

-- a row that is not of the key leaves what is held at the moving average
IsAverageOf-other : (rows : List Row) (row : Row) (key : Key) (held now : Held) → is_of key row ≡ false → now ≡ held → IsAverageOf rows key held → IsAverageOf (rows ++ row ∷ []) key now
IsAverageOf-other rows row key held now is same average =
    let sums = AreSumsWith-other rows row key is in
    let units = ap (λ (h : Held). h.units) same in
    let value = ap (λ (h : Held). h.value) same in
    record {
      quantity = omega (arith, units, average.quantity, sums.units_in, sums.units_out);
      worth = omega (arith, value, average.worth, sums.worth_in, sums.worth_out);
    }

-- and the layers
AreLayersOf-other : (rows : List Row) (row : Row) (key : Key) (layers now : List (Layer Lot)) → is_of key row ≡ false → now ≡ layers → AreLayersOf rows key layers → AreLayersOf (rows ++ row ∷ []) key now
AreLayersOf-other rows row key layers now is same old =
    let sums = AreSumsWith-other rows row key is in
    let out_same : quantity_out rows key ≡ quantity_out (rows ++ row ∷ []) key = omega (arith, sums.units_out) in
    let none_in : enters_at key row ≡ false = ap (λ (b : Bool). b && is_entering row.entry.place.side) is in
    let none_out : leaves_at key row ≡ false = ap (λ (b : Bool). b && not (is_entering row.entry.place.side)) is in
    record {
      left = same ∙ old.left
          ∙ ap (λ (es : List Row). layers_left lot_units (map row_lot es) (quantity_out rows key)) (sym (filter-without (enters_at key) rows row none_in))
          ∙ ap (layers_left lot_units (map row_lot (filter (enters_at key) (rows ++ row ∷ [])))) out_same;
      out = IsFirstOutAt-next rows row key old.out (λ leaves. absurd (false≢true (sym none_out ∙ leaves)));
    }

-- the stocks after one more row: those of its own key by the formula of its item, and the others as before
pub AreStocksOf-next : (rows : List Row) (row : Row) (old_averages averages : Averages) (old_queues queues : Queues) → AreStocksOf rows old_averages old_queues
    → (is_entering row.entry.place.side ≡ false → quantity_out rows (entry_key row.entry) + units_of row ≤ quantity_in rows (entry_key row.entry))
    → ((key : Key) → is_same_key (entry_key row.entry) key ≡ false → held_of averages key ≡ held_of old_averages key)
    → (HasFormulaAt Average rows (entry_key row.entry) → row.entry.method ≡ Average → IsAverageOf (rows ++ row ∷ []) (entry_key row.entry) (held_of averages (entry_key row.entry)))
    → ((key : Key) → is_same_key (entry_key row.entry) key ≡ false → layers_of queues key ≡ layers_of old_queues key)
    → (HasFormulaAt Fifo rows (entry_key row.entry) → row.entry.method ≡ Fifo → AreLayersOf (rows ++ row ∷ []) (entry_key row.entry) (layers_of queues (entry_key row.entry)))
    → AreStocksOf (rows ++ row ∷ []) averages queues
AreStocksOf-next rows row old_averages averages old_queues queues old leaving averages_stay own_average queues_stay own_queue =
    record {
      covered = λ key. covered_by key (is_of key row) (is_entering row.entry.place.side) refl refl;
      at_average = λ key all. average_by key (is_of key row) refl all;
      first_in = λ key all. queue_by key (is_of key row) refl all;
    }
  where
    own_key : (key : Key) → is_of key row ≡ true → entry_key row.entry ≡ key
    own_key key is = is_same_key-true (entry_key row.entry) key is

    covered_by : (key : Key) (own enters : Bool) → is_of key row ≡ own → is_entering row.entry.place.side ≡ enters → quantity_out (rows ++ row ∷ []) key ≤ quantity_in (rows ++ row ∷ []) key
    covered_by key false enters is side = let sums = AreSumsWith-other rows row key is in omega (arith, sums.units_in, sums.units_out, old.covered key)
    covered_by key true true is side = let sums = AreSumsWith-is rows row key true true is side in omega (arith, sums.units_in, sums.units_out, old.covered key)
    covered_by key true false is side =
        let sums = AreSumsWith-is rows row key true false is side in
        let enough : quantity_out rows key + units_of row ≤ quantity_in rows key = subst (λ (k : Key). quantity_out rows k + units_of row ≤ quantity_in rows k) (own_key key is) (leaving side) in
        omega (arith, sums.units_in, sums.units_out, enough)

    average_by : (key : Key) (own : Bool) → is_of key row ≡ own → HasFormulaAt Average (rows ++ row ∷ []) key → IsAverageOf (rows ++ row ∷ []) key (held_of averages key)
    average_by key false is all = IsAverageOf-other rows row key (held_of old_averages key) (held_of averages key) is (averages_stay key is) (old.at_average key (HasFormulaAt-front Average rows row key all))
    average_by key true is all =
        subst (λ (k : Key). IsAverageOf (rows ++ row ∷ []) k (held_of averages k)) (own_key key is)
        (own_average (subst (HasFormulaAt Average rows) (sym (own_key key is)) (HasFormulaAt-front Average rows row key all)) (HasFormulaAt-last Average rows row key all is))

    queue_by : (key : Key) (own : Bool) → is_of key row ≡ own → HasFormulaAt Fifo (rows ++ row ∷ []) key → AreLayersOf (rows ++ row ∷ []) key (layers_of queues key)
    queue_by key false is all = AreLayersOf-other rows row key (layers_of old_queues key) (layers_of queues key) is (queues_stay key is) (old.first_in key (HasFormulaAt-front Fifo rows row key all))
    queue_by key true is all =
        subst (λ (k : Key). AreLayersOf (rows ++ row ∷ []) k (layers_of queues k)) (own_key key is)
        (own_queue (subst (HasFormulaAt Fifo rows) (sym (own_key key is)) (HasFormulaAt-front Fifo rows row key all)) (HasFormulaAt-last Fifo rows row key all is))

-- no more value left than entered
pub value_out-le : (rows more : List Row) (key : Key) → AreBounded (rows ++ more) → value_out rows key ≤ value_in rows key
value_out-le rows more key bounded =
    let front : take (length rows) (rows ++ more) ≡ rows = take-append-le (length rows) rows more (omega arith) ∙ take_all (length rows) rows (omega arith) in
    subst (λ (all : List Row). value_out all key ≤ value_in all key) front (bounded.never_negative (length rows) key)

-- and what is left is at most the largest value
pub value_in-le_out : (rows : List Row) (key : Key) → AreBounded rows → value_in rows key ≤ value_out rows key + MAX_VALUE
value_in-le_out rows key bounded =
    subst (λ (all : List Row). value_in all key ≤ value_out all key + MAX_VALUE) (take_all (length rows) rows (omega arith)) (bounded.not_large (length rows) key)

-- what is held at the moving average after a row that enters
pub IsAverageOf-entered : (rows : List Row) (row : Row) (key : Key) (held now : Held) → is_of key row ≡ true → is_entering row.entry.place.side ≡ true
    → AreBounded (rows ++ row ∷ []) → quantity_out rows key ≤ quantity_in rows key → IsAverageOf rows key held
    → now ≡ record { units = held.units + units_of row; value = held.value + value_of row } → IsAverageOf (rows ++ row ∷ []) key now
IsAverageOf-entered rows row key held now is enters bounded covered average is_now =
    let sums = AreSumsWith-is rows row key true true is enters in
    let units = ap (λ (h : Held). h.units) is_now in
    let value = ap (λ (h : Held). h.value) is_now in
    let worth_covered = value_out-le rows (row ∷ []) key bounded in
    record {
      quantity = omega (arith, units, average.quantity, sums.units_in, sums.units_out, covered);
      worth = omega (arith, value, average.worth, sums.worth_in, sums.worth_out, worth_covered);
    }

-- and after one that leaves
pub IsAverageOf-left : (rows : List Row) (row : Row) (key : Key) (held now : Held) → is_of key row ≡ true → is_entering row.entry.place.side ≡ false
    → IsAverageOf rows key held → now ≡ record { units = held.units - units_of row; value = held.value - value_of row } → IsAverageOf (rows ++ row ∷ []) key now
IsAverageOf-left rows row key held now is leaves average is_now =
    let sums = AreSumsWith-is rows row key true false is leaves in
    let units = ap (λ (h : Held). h.units) is_now in
    let value = ap (λ (h : Held). h.value) is_now in
    record {
      quantity = omega (arith, units, average.quantity, sums.units_in, sums.units_out);
      worth = omega (arith, value, average.worth, sums.worth_in, sums.worth_out);
    }

-- a sum over the lots of rows
sum_by-lots : (f : Lot → ℕ) (rows : List Row) → sum_by f (map row_lot rows) ≡ sum_by (λ row. f (row_lot row)) rows
sum_by-lots f [] = refl
sum_by-lots f (row ∷ rows) = omega (arith, sum_by-cons f (row_lot row) (map row_lot rows), sum_by-cons (λ row. f (row_lot row)) row rows, sum_by-lots f rows)

lots-some : (rows : List Row) → All (λ e. 0 < lot_units e) (map row_lot rows)
lots-some rows = All-map (λ e. 0 < lot_units e) row_lot rows (units-some rows)

-- the layers have the units that did not leave
pub AreLayersOf-units : (rows : List Row) (key : Key) (layers : List (Layer Lot)) → AreLayersOf rows key layers → quantity_out rows key + units_held layers ≡ quantity_in rows key
AreLayersOf-units rows key layers old =
    let lots = map row_lot (filter (enters_at key) rows) in
    let all : sum_by lot_units lots ≡ quantity_in rows key = sum_by-lots lot_units (filter (enters_at key) rows) in
    let held = old.out.held in
    let left = layers_left-units lot_units lots (quantity_out rows key) (omega (arith, all, held)) in
    let same = ap units_held old.left in
    omega (arith, left, same, all)

-- and their value
pub AreLayersOf-value : (rows : List Row) (key : Key) (layers : List (Layer Lot)) → AreLayersOf rows key layers → value_out rows key + value_held layers ≡ value_in rows key
AreLayersOf-value rows key layers old =
    let ins = filter (enters_at key) rows in
    let lots = map row_lot ins in
    let all_units : sum_by lot_units lots ≡ quantity_in rows key = sum_by-lots lot_units ins in
    let all_value : sum_by lot_value lots ≡ value_in rows key = sum_by-lots lot_value ins in
    let held = old.out.held in
    let left = layers_left-value lot_units lot_value lots (quantity_out rows key) (lots-some ins) (omega (arith, all_units, held)) in
    let cost = first_cost-map row_lot lot_units lot_value ins (quantity_out rows key) in
    let out = old.out.cost in
    let same = ap value_held old.left in
    omega (arith, left, same, all_value, cost, out)

-- the next units of the layers cost what the next units of all that entered do
pub AreLayersOf-cost : (rows : List Row) (key : Key) (layers : List (Layer Lot)) (q : ℕ) → AreLayersOf rows key layers
    → layers_cost layers q ≡ next_cost units_of value_of (filter (enters_at key) rows) (quantity_out rows key) q
AreLayersOf-cost rows key layers q old =
    let ins = filter (enters_at key) rows in
    ap (λ (ls : List (Layer Lot)). layers_cost ls q) old.left
    ∙ layers_cost-left (map row_lot ins) (quantity_out rows key) q (lots-some ins)
    ∙ next_cost-map row_lot lot_units lot_value ins (quantity_out rows key) q

-- the layers after a row that enters
pub AreLayersOf-entered : (rows : List Row) (row : Row) (key : Key) (layers now : List (Layer Lot)) → is_of key row ≡ true → is_entering row.entry.place.side ≡ true
    → AreLayersOf rows key layers → now ≡ layers ++ untouched (row_lot row) ∷ [] → AreLayersOf (rows ++ row ∷ []) key now
AreLayersOf-entered rows row key layers now is enters old is_now =
    let ins = filter (enters_at key) rows in
    let sums = AreSumsWith-is rows row key true true is enters in
    let out_same : quantity_out rows key ≡ quantity_out (rows ++ row ∷ []) key = omega (arith, sums.units_out) in
    let one_in : enters_at key row ≡ true = ap (λ (b : Bool). b && is_entering row.entry.place.side) is ∙ enters in
    let none_out : leaves_at key row ≡ false = ap (λ (b : Bool). b && not (is_entering row.entry.place.side)) is ∙ ap not enters in
    let all : sum_by lot_units (map row_lot ins) ≡ quantity_in rows key = sum_by-lots lot_units ins in
    let held = old.out.held in
    record {
      left = is_now
          ∙ ap (λ (ls : List (Layer Lot)). ls ++ untouched (row_lot row) ∷ []) old.left
          ∙ sym (layers_left-snoc lot_units (map row_lot ins) (row_lot row) (quantity_out rows key) (omega (arith, all, held)) row.entry.quantity.0)
          ∙ ap (λ (es : List Lot). layers_left lot_units es (quantity_out rows key)) (sym (map-append row_lot ins (row ∷ [])))
          ∙ ap (λ (es : List Row). layers_left lot_units (map row_lot es) (quantity_out rows key)) (sym (filter-with (enters_at key) rows row one_in))
          ∙ ap (layers_left lot_units (map row_lot (filter (enters_at key) (rows ++ row ∷ [])))) out_same;
      out = IsFirstOutAt-next rows row key old.out (λ leaves. absurd (false≢true (sym none_out ∙ leaves)));
    }

-- and after one that leaves
pub AreLayersOf-left : (rows : List Row) (row : Row) (key : Key) (layers now : List (Layer Lot)) → is_of key row ≡ true → is_entering row.entry.place.side ≡ false
    → quantity_out rows key + units_of row ≤ quantity_in rows key → value_of row ≡ next_cost units_of value_of (filter (enters_at key) rows) (quantity_out rows key) (units_of row)
    → AreLayersOf rows key layers → now ≡ layers_after layers (units_of row) → AreLayersOf (rows ++ row ∷ []) key now
AreLayersOf-left rows row key layers now is leaves enough cost old is_now =
    let ins = filter (enters_at key) rows in
    let sums = AreSumsWith-is rows row key true false is leaves in
    let none_in : enters_at key row ≡ false = ap (λ (b : Bool). b && is_entering row.entry.place.side) is ∙ leaves in
    record {
      left = is_now
          ∙ ap (λ (ls : List (Layer Lot)). layers_after ls (units_of row)) old.left
          ∙ layers_after-left (map row_lot ins) (quantity_out rows key) (units_of row)
          ∙ ap (layers_left lot_units (map row_lot ins)) (sym sums.units_out)
          ∙ ap (λ (es : List Row). layers_left lot_units (map row_lot es) (quantity_out (rows ++ row ∷ []) key)) (sym (filter-without (enters_at key) rows row none_in));
      out = IsFirstOutAt-next rows row key old.out (λ leaving. (enough, cost));
    }

-- a row is of its own key
pub is_of-own : (row : Row) → is_of (entry_key row.entry) row ≡ true
is_of-own row = is_same_key-refl (entry_key row.entry)
