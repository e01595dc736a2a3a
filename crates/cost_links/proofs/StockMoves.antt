-- What is held after a movement that enters or leaves, by the formula of its item.
use Rattle.std.proofs.Common.{◌≡◌, ℕ, ℤ, pos, ◌+◌, ◌-◌, ◌≤◌, Bool, true, false, cond, not, List, [], ◌∷◌, ◌++◌, refl, sym, ap, ◌∙◌, subst, arith}
use Rattle.std.proofs.lemmas.Bool.{false≢true}
use Rattle.stock_nums.specs.Causes.{is_entering}
use Rattle.stock_nums.specs.FirstIn.{Layer}
use Rattle.stock_nums.specs.HalfUp.{half_up}
use Rattle.stock_nums.specs.declared.cause.Method.{Method}
use Rattle.stock_nums.specs.declared.cause.Method.TheVariants.{Fifo, Average}
use Rattle.stock_nums.specs.declared.entry.Entry.{Entry}
use Rattle.stock_nums.specs.declared.entry.Key.{Key}
use Rattle.stock_nums.specs.declared.entry.Row.{Row}
use Rattle.stock_nums.specs.declared.limits.TheConstants.{MAX_UNITS, MAX_VALUE}
use Rattle.stock_nums.specs.declared.numbers.Minor.{Minor}
use Rattle.stock_model.specs.Bounds.{AreBounded}
use Rattle.stock_model.specs.Enough.{entry_key, is_same_key}
use Rattle.stock_model.specs.Sums.{units_of, value_of, quantity_in, quantity_out, stock_units, stock_value}
use Rattle.stock_model.specs.Values.{cost_by}
use Rattle.stock_laws.proofs.Bounds.{quantity_in-le}
use Rattle.stock_laws.proofs.Enough.{is_same_key-refl}
use Rattle.cost_formulas.specs.Held.{units_held, value_held, layers_cost, layers_after}
use Rattle.cost_formulas.specs.Lots.{Lot, untouched}
use Rattle.cost_links.specs.declared.averages.Averages.{Averages}
use Rattle.cost_links.specs.declared.queues.Queues.{Queues}
use Rattle.cost_links.specs.Formulas.{HasFormulaAt}
use Rattle.cost_links.specs.Rows.{row_lot, costed}
use Rattle.cost_links.specs.Stocks.{AreStocksOf}
use Rattle.cost_links.specs.Tables.{Held, held_of, layers_of}
use Rattle.cost_links.proofs.StockSteps.{AreSumsWith-is, AreStocksOf-next, IsAverageOf-entered, IsAverageOf-left, AreLayersOf-units, AreLayersOf-value, AreLayersOf-cost, AreLayersOf-entered, AreLayersOf-left, value_out-le, value_in-le_out, is_of-own}

-- an item has one formula
not_both : (method : Method) → method ≡ Average → method ≡ Fifo → ⊥
not_both method average first_in = cc

pub turned : (b : Bool) → not b ≡ true → b ≡ false
turned true h = absurd (false≢true h)
turned false h = refl

-- what is changed under one key is as it was under the others
stays : {X : Type 0} (b : Bool) (now new old : X) → now ≡ cond b new old → b ≡ false → now ≡ old
stays b now new old is other = is ∙ ap (λ (v : Bool). cond v new old) other

changes : {X : Type 0} (b : Bool) (now new old : X) → now ≡ cond b new old → b ≡ true → now ≡ new
changes b now new old is own = is ∙ ap (λ (v : Bool). cond v new old) own

-- what is held of the row's item at the moving average has room for the row
pub average-fits : (rows : List Row) (row : Row) (key : Key) (averages : Averages) (queues : Queues) → AreStocksOf rows averages queues → key ≡ entry_key row.entry
    → is_entering row.entry.place.side ≡ true → AreBounded (rows ++ row ∷ []) → HasFormulaAt Average rows (entry_key row.entry)
    → ((held_of averages key).units + units_of row ≤ MAX_UNITS) × ((held_of averages key).value + value_of row ≤ MAX_VALUE)
average-fits rows row key averages queues stocks is_key enters bounded formula =
    let own = entry_key row.entry in
    let average = stocks.at_average own formula in
    let sums = AreSumsWith-is rows row own true true (is_of-own row) enters in
    let units : (held_of averages own).units + units_of row ≤ MAX_UNITS = omega (arith, average.quantity, sums.units_in, quantity_in-le (rows ++ row ∷ []) own bounded) in
    let value : (held_of averages own).value + value_of row ≤ MAX_VALUE = omega (arith, average.worth, sums.worth_in, sums.worth_out, value_out-le rows (row ∷ []) own bounded, value_in-le_out (rows ++ row ∷ []) own bounded) in
    subst (λ (k : Key). ((held_of averages k).units + units_of row ≤ MAX_UNITS) × ((held_of averages k).value + value_of row ≤ MAX_VALUE)) (sym is_key) (units, value)

-- the layers have room for it
pub layers-fit : (rows : List Row) (row : Row) (key : Key) (averages : Averages) (queues : Queues) → AreStocksOf rows averages queues → key ≡ entry_key row.entry
    → is_entering row.entry.place.side ≡ true → AreBounded (rows ++ row ∷ []) → HasFormulaAt Fifo rows (entry_key row.entry)
    → (units_held (layers_of queues key) + units_of row ≤ MAX_UNITS) × (value_held (layers_of queues key) + value_of row ≤ MAX_VALUE)
layers-fit rows row key averages queues stocks is_key enters bounded formula =
    let own = entry_key row.entry in
    let layers = stocks.first_in own formula in
    let sums = AreSumsWith-is rows row own true true (is_of-own row) enters in
    let all_units = AreLayersOf-units rows own (layers_of queues own) layers in
    let all_value = AreLayersOf-value rows own (layers_of queues own) layers in
    let units : units_held (layers_of queues own) + units_of row ≤ MAX_UNITS = omega (arith, all_units, sums.units_in, quantity_in-le (rows ++ row ∷ []) own bounded) in
    let value : value_held (layers_of queues own) + value_of row ≤ MAX_VALUE = omega (arith, all_value, sums.worth_in, sums.worth_out, value_in-le_out (rows ++ row ∷ []) own bounded) in
    subst (λ (k : Key). (units_held (layers_of queues k) + units_of row ≤ MAX_UNITS) × (value_held (layers_of queues k) + value_of row ≤ MAX_VALUE)) (sym is_key) (units, value)

-- after a row that enters, at the moving average
pub AreStocksOf-average_entered : (rows : List Row) (row : Row) (key : Key) (old averages : Averages) (queues : Queues) → AreStocksOf rows old queues → key ≡ entry_key row.entry
    → row.entry.method ≡ Average → is_entering row.entry.place.side ≡ true → AreBounded (rows ++ row ∷ [])
    → ((other : Key) → held_of averages other ≡ cond (is_same_key key other) (record { units = (held_of old key).units + units_of row; value = (held_of old key).value + value_of row }) (held_of old other))
    → AreStocksOf (rows ++ row ∷ []) averages queues
AreStocksOf-average_entered rows row key old averages queues stocks is_key method enters bounded changed =
    let own = entry_key row.entry in
    let new : Key → Held = λ k. record { units = (held_of old k).units + units_of row; value = (held_of old k).value + value_of row } in
    let told : (other : Key) → held_of averages other ≡ cond (is_same_key own other) (new own) (held_of old other) =
    subst (λ (k : Key). (other : Key) → held_of averages other ≡ cond (is_same_key k other) (new k) (held_of old other)) is_key changed in
    AreStocksOf-next rows row old averages queues queues stocks
    (λ leaves. absurd (false≢true (sym leaves ∙ enters)))
    (λ other apart. stays (is_same_key own other) (held_of averages other) (new own) (held_of old other) (told other) apart)
    (λ formula average. IsAverageOf-entered rows row own (held_of old own) (held_of averages own) (is_of-own row) enters bounded (stocks.covered own) (stocks.at_average own formula)
    (changes (is_same_key own own) (held_of averages own) (new own) (held_of old own) (told own) (is_same_key-refl own)))
    (λ other apart. refl)
    (λ formula first_in. absurd (not_both row.entry.method method first_in))

-- first in, first out
pub AreStocksOf-layer_entered : (rows : List Row) (row : Row) (key : Key) (averages : Averages) (old queues : Queues) → AreStocksOf rows averages old → key ≡ entry_key row.entry
    → row.entry.method ≡ Fifo → is_entering row.entry.place.side ≡ true
    → ((other : Key) → layers_of queues other ≡ cond (is_same_key key other) (layers_of old key ++ untouched (row_lot row) ∷ []) (layers_of old other))
    → AreStocksOf (rows ++ row ∷ []) averages queues
AreStocksOf-layer_entered rows row key averages old queues stocks is_key method enters changed =
    let own = entry_key row.entry in
    let new : Key → List (Layer Lot) = λ k. layers_of old k ++ untouched (row_lot row) ∷ [] in
    let told : (other : Key) → layers_of queues other ≡ cond (is_same_key own other) (new own) (layers_of old other) =
    subst (λ (k : Key). (other : Key) → layers_of queues other ≡ cond (is_same_key k other) (new k) (layers_of old other)) is_key changed in
    AreStocksOf-next rows row averages averages old queues stocks
    (λ leaves. absurd (false≢true (sym leaves ∙ enters)))
    (λ other apart. refl)
    (λ formula average. absurd (not_both row.entry.method average method))
    (λ other apart. stays (is_same_key own other) (layers_of queues other) (new own) (layers_of old other) (told other) apart)
    (λ formula first_in. AreLayersOf-entered rows row own (layers_of old own) (layers_of queues own) (is_of-own row) enters (stocks.first_in own formula)
    (changes (is_same_key own own) (layers_of queues own) (new own) (layers_of old own) (told own) (is_same_key-refl own)))

-- the units that are in stock did not leave
in_stock : (qty ins outs : ℕ) → qty ≤ ins - outs → outs ≤ ins → outs + qty ≤ ins
in_stock qty ins outs held covered = omega arith

-- what units that leave cost at the moving average of what is held
pub average-cost : (rows : List Row) (e : Entry) (key : Key) (averages : Averages) (queues : Queues) → AreStocksOf rows averages queues → key ≡ entry_key e → e.method ≡ Average → HasFormulaAt Average rows (entry_key e)
    → half_up (held_of averages key).value e.qty.0 (held_of averages key).units ≡ cost_by e.method rows e
average-cost rows e key averages queues stocks is_key method formula =
    let own = entry_key e in
    let average = stocks.at_average own formula in
    ap (λ (k : Key). half_up (held_of averages k).value e.qty.0 (held_of averages k).units) is_key
    ∙ ap (λ (v : ℕ). half_up v e.qty.0 (held_of averages own).units) average.worth
    ∙ ap (λ (u : ℕ). half_up (stock_value rows own) e.qty.0 u) average.quantity
    ∙ ap (λ (m : Method). cost_by m rows e) (sym method)

-- and first in, first out
pub layers-cost : (rows : List Row) (e : Entry) (key : Key) (averages : Averages) (queues : Queues) → AreStocksOf rows averages queues → key ≡ entry_key e → e.method ≡ Fifo → HasFormulaAt Fifo rows (entry_key e)
    → layers_cost (layers_of queues key) e.qty.0 ≡ cost_by e.method rows e
layers-cost rows e key averages queues stocks is_key method formula =
    let own = entry_key e in
    ap (λ (k : Key). layers_cost (layers_of queues k) e.qty.0) is_key
    ∙ AreLayersOf-cost rows own (layers_of queues own) e.qty.0 (stocks.first_in own formula)
    ∙ ap (λ (m : Method). cost_by m rows e) (sym method)

-- the units that leave are held at the moving average
pub average-held : (rows : List Row) (e : Entry) (key : Key) (averages : Averages) (queues : Queues) → AreStocksOf rows averages queues → key ≡ entry_key e → HasFormulaAt Average rows (entry_key e)
    → e.qty.0 ≤ stock_units rows (entry_key e) → e.qty.0 ≤ (held_of averages key).units
average-held rows e key averages queues stocks is_key formula held =
    let own = entry_key e in
    let average = stocks.at_average own formula in
    let enough : e.qty.0 ≤ (held_of averages own).units = omega (arith, average.quantity, held) in
    subst (λ (k : Key). e.qty.0 ≤ (held_of averages k).units) (sym is_key) enough

-- and in the layers
pub layers-held : (rows : List Row) (e : Entry) (key : Key) (averages : Averages) (queues : Queues) → AreStocksOf rows averages queues → key ≡ entry_key e → HasFormulaAt Fifo rows (entry_key e)
    → e.qty.0 ≤ stock_units rows (entry_key e) → e.qty.0 ≤ units_held (layers_of queues key)
layers-held rows e key averages queues stocks is_key formula held =
    let own = entry_key e in
    let all = AreLayersOf-units rows own (layers_of queues own) (stocks.first_in own formula) in
    let enough : e.qty.0 ≤ units_held (layers_of queues own) = omega (arith, all, held) in
    subst (λ (k : Key). e.qty.0 ≤ units_held (layers_of queues k)) (sym is_key) enough

-- after a row that leaves, at the moving average
pub AreStocksOf-average_left : (rows : List Row) (row : Row) (key : Key) (old averages : Averages) (queues : Queues) → AreStocksOf rows old queues → key ≡ entry_key row.entry
    → row.entry.method ≡ Average → not (is_entering row.entry.place.side) ≡ true → units_of row ≤ stock_units rows (entry_key row.entry)
    → value_of row ≡ half_up (held_of old key).value (units_of row) (held_of old key).units
    → ((other : Key) → held_of averages other ≡ cond (is_same_key key other) (record { units = (held_of old key).units - units_of row; value = (held_of old key).value - half_up (held_of old key).value (units_of row) (held_of old key).units }) (held_of old other))
    → AreStocksOf (rows ++ row ∷ []) averages queues
AreStocksOf-average_left rows row key old averages queues stocks is_key method leaves held cost changed =
    let own = entry_key row.entry in
    let side = turned (is_entering row.entry.place.side) leaves in
    let half : Key → ℕ = λ k. half_up (held_of old k).value (units_of row) (held_of old k).units in
    let new : Key → Held = λ k. record { units = (held_of old k).units - units_of row; value = (held_of old k).value - half k } in
    let told : (other : Key) → held_of averages other ≡ cond (is_same_key own other) (new own) (held_of old other) =
    subst (λ (k : Key). (other : Key) → held_of averages other ≡ cond (is_same_key k other) (new k) (held_of old other)) is_key changed in
    let own_cost : half own ≡ value_of row = sym (cost ∙ ap half is_key) in
    let of : ℕ → Held = λ n. record { units = (held_of old own).units - units_of row; value = (held_of old own).value - n } in
    AreStocksOf-next rows row old averages queues queues stocks
    (λ out. in_stock (units_of row) (quantity_in rows own) (quantity_out rows own) held (stocks.covered own))
    (λ other apart. stays (is_same_key own other) (held_of averages other) (new own) (held_of old other) (told other) apart)
    (λ formula average. IsAverageOf-left rows row own (held_of old own) (held_of averages own) (is_of-own row) side (stocks.at_average own formula)
    (changes (is_same_key own own) (held_of averages own) (new own) (held_of old own) (told own) (is_same_key-refl own) ∙ ap of own_cost))
    (λ other apart. refl)
    (λ formula first_in. absurd (not_both row.entry.method method first_in))

-- first in, first out
pub AreStocksOf-layer_left : (rows : List Row) (row : Row) (key : Key) (averages : Averages) (old queues : Queues) → AreStocksOf rows averages old → key ≡ entry_key row.entry
    → row.entry.method ≡ Fifo → not (is_entering row.entry.place.side) ≡ true → units_of row ≤ stock_units rows (entry_key row.entry)
    → value_of row ≡ layers_cost (layers_of old key) (units_of row)
    → ((other : Key) → layers_of queues other ≡ cond (is_same_key key other) (layers_after (layers_of old key) (units_of row)) (layers_of old other))
    → AreStocksOf (rows ++ row ∷ []) averages queues
AreStocksOf-layer_left rows row key averages old queues stocks is_key method leaves held cost changed =
    let own = entry_key row.entry in
    let side = turned (is_entering row.entry.place.side) leaves in
    let new : Key → List (Layer Lot) = λ k. layers_after (layers_of old k) (units_of row) in
    let told : (other : Key) → layers_of queues other ≡ cond (is_same_key own other) (new own) (layers_of old other) =
    subst (λ (k : Key). (other : Key) → layers_of queues other ≡ cond (is_same_key k other) (new k) (layers_of old other)) is_key changed in
    let own_cost : value_of row ≡ layers_cost (layers_of old own) (units_of row) = cost ∙ ap (λ (k : Key). layers_cost (layers_of old k) (units_of row)) is_key in
    let enough = in_stock (units_of row) (quantity_in rows own) (quantity_out rows own) held (stocks.covered own) in
    AreStocksOf-next rows row averages averages old queues stocks
    (λ out. enough)
    (λ other apart. refl)
    (λ formula average. absurd (not_both row.entry.method average method))
    (λ other apart. stays (is_same_key own other) (layers_of queues other) (new own) (layers_of old other) (told other) apart)
    (λ formula first_in. AreLayersOf-left rows row own (layers_of old own) (layers_of queues own) (is_of-own row) side enough
    (own_cost ∙ AreLayersOf-cost rows own (layers_of old own) (units_of row) (stocks.first_in own formula))
    (stocks.first_in own formula)
    (changes (is_same_key own own) (layers_of queues own) (new own) (layers_of old own) (told own) (is_same_key-refl own)))

-- a movement at its cost
pub costed-is : (before : List Row) (e : Entry) (value share : Minor) → value.0 ≡ pos (cost_by e.method before e) → record { entry = e; worth = record { value = value; share = share } } ≡ costed before e share
costed-is before e value share is =
    let of : ℤ → Row = λ z. record { entry = e; worth = record { value = record { 0 = z }; share = share } } in
    ap of is
