-- What entered less what left is what the layers sheet shows.
use Rattle.std.proofs.Common.{◌≡◌, ℕ, ◌+◌, ◌==◌, Bool, true, false, cond, List, [], ◌∷◌, map, filter, sum_by, Some, refl, sym, ap, ◌∙◌, subst, arith}
use Rattle.std.specs.List.{All, find}
use Rattle.std.specs.Option.{option_map}
use Rattle.std.specs.Prelude.{unwrap_or}
use Rattle.std.proofs.lemmas.Bool.Decides.{nat_tests}
use Rattle.std.proofs.lemmas.List.Elements.{All-head, All-tail}
use Rattle.std.proofs.lemmas.List.Sums.{sum_by-cons}
use Rattle.stock_nums.specs.FirstIn.{layer_value}
use Rattle.stock_nums.proofs.FirstIn.{layers_left-units, layers_left-value}
use Rattle.stock_nums.specs.declared.cause.Method.{Method}
use Rattle.stock_nums.specs.declared.cause.Method.TheVariants.{Fifo, Average}
use Rattle.stock_nums.specs.declared.entry.Key.{Key}
use Rattle.stock_nums.specs.declared.entry.Row.{Row}
use Rattle.stock_nums.specs.declared.head.Head.{Head}
use Rattle.stock_model.specs.declared.records.Record.{Record}
use Rattle.stock_model.specs.Enough.{entry_key, IsEnough}
use Rattle.stock_model.specs.Formulas.{HasFormula}
use Rattle.stock_model.specs.Layers.{formula_at, row_method, layers_at, layer_row, average_row, layer_rows_by, layer_rows, shown_units, shown_value}
use Rattle.stock_model.specs.PostingOrder.{posting_line}
use Rattle.stock_model.specs.Replay.{rows_of, replay}
use Rattle.stock_model.specs.Sums.{is_of, enters_at, leaves_at, units_of, value_of, quantity_in, quantity_out, value_in, value_out, stock_units}
use Rattle.stock_laws.proofs.Enough.{is_same_key-true}
use Rattle.stock_laws.proofs.FirstOut.{IsFirstOutAt, IsFirstOut-all, units-some}
use Rattle.stock_laws.proofs.Formulas.{posting_line-formula}
use Rattle.stock_laws.proofs.CostedRows.{IsCostedAt, AreCosted, AreCosted-rows_of}

-- a sum over what is made of the elements
sum_by-map : {X Y : Type 0} (f : Y → ℕ) (g : X → Y) (xs : List X) → sum_by f (map g xs) ≡ sum_by (λ x. f (g x)) xs
sum_by-map f g [] = refl
sum_by-map f g (x ∷ xs) = omega (arith, sum_by-cons f (g x) (map g xs), sum_by-cons (λ x. f (g x)) x xs, sum_by-map f g xs)

-- where no units are left no value is
nothing-by : (method : Method) (rows : List Row) (key : Key) → IsCostedAt method rows key → quantity_in rows key ≡ quantity_out rows key → value_in rows key ≡ value_out rows key
nothing-by Fifo rows key costed none = IsFirstOut-all (filter (enters_at key) rows) (filter (leaves_at key) rows) costed (omega (arith, none))
nothing-by Average rows key costed none = costed none

-- the first movement of a key says the formula of its item
pub formula_at-is : (formula : ℕ → Method) (rows : List Row) (key : Key) → All (λ row. HasFormula formula row.entry) rows → formula_at rows key ≡ Fifo → formula key.item.0 ≡ Fifo
formula_at-is formula [] key all is = cc
formula_at-is formula (row ∷ rows) key all is =
    let has = All-head (λ row. HasFormula formula row.entry) row rows all in
    let step : (b : Bool) → is_of key row ≡ b → unwrap_or (option_map row_method (cond b (Some row) (find (is_of key) rows))) Average ≡ Fifo → formula key.item.0 ≡ Fifo =
    λ b. elim b as (λ v. is_of key row ≡ v → unwrap_or (option_map row_method (cond v (Some row) (find (is_of key) rows))) Average ≡ Fifo → formula key.item.0 ≡ Fifo) [
      | true ↦ λ own says. ap (λ (k : Key). formula k.item.0) (sym (is_same_key-true (entry_key row.entry) key own)) ∙ sym has ∙ says
      | false ↦ λ other says. formula_at-is formula rows key (All-tail (λ row. HasFormula formula row.entry) row rows all) says
    ] in
    step (is_of key row) refl is

-- the units that the sheet shows
units-by : (formula : ℕ → Method) (method : Method) (heads : List Head) (rows : List Row) (key : Key) → AreCosted formula rows
    → quantity_out rows key + sum_by shown_units (layer_rows_by method heads rows key) ≡ quantity_in rows key
units-by formula Fifo heads rows key are =
    let left = layers_left-units units_of (filter (enters_at key) rows) (quantity_out rows key) (are.held key) in
    ap (λ (n : ℕ). quantity_out rows key + n) (sum_by-map shown_units (layer_row heads key) (layers_at rows key)) ∙ left
units-by formula Average heads rows key are =
    let held = are.held key in
    let step : (b : Bool) → (stock_units rows key == 0) ≡ b → quantity_out rows key + sum_by shown_units (cond b [] (average_row heads rows key ∷ [])) ≡ quantity_in rows key =
    λ b. elim b as (λ v. (stock_units rows key == 0) ≡ v → quantity_out rows key + sum_by shown_units (cond v [] (average_row heads rows key ∷ [])) ≡ quantity_in rows key) [
      | true ↦ λ is. let none : stock_units rows key ≡ 0 = grind (arith, nat_tests) in omega (arith, none, held)
      | false ↦ λ is. omega (arith, held, sum_by-cons shown_units (average_row heads rows key) [])
    ] in
    step (stock_units rows key == 0) refl

-- what the sheet says that they are worth
pub value-by : (formula : ℕ → Method) (method : Method) (heads : List Head) (rows : List Row) (key : Key) → AreCosted formula rows → (method ≡ Fifo → formula key.item.0 ≡ Fifo)
    → value_out rows key + sum_by shown_value (layer_rows_by method heads rows key) ≡ value_in rows key
value-by formula Fifo heads rows key are is_fifo =
    let out : IsFirstOutAt rows key = subst (λ (m : Method). IsCostedAt m rows key) (is_fifo refl) (are.costed key) in
    let left = layers_left-value units_of value_of (filter (enters_at key) rows) (quantity_out rows key) (units-some (filter (enters_at key) rows)) (are.held key) in
    ap (λ (n : ℕ). value_out rows key + n) (sum_by-map shown_value (layer_row heads key) (layers_at rows key))
    ∙ ap (λ (n : ℕ). n + sum_by (layer_value units_of value_of) (layers_at rows key)) out.cost
    ∙ left
value-by formula Average heads rows key are is_fifo =
    let covered = are.covered key in
    let step : (b : Bool) → (stock_units rows key == 0) ≡ b → value_out rows key + sum_by shown_value (cond b [] (average_row heads rows key ∷ [])) ≡ value_in rows key =
    λ b. elim b as (λ v. (stock_units rows key == 0) ≡ v → value_out rows key + sum_by shown_value (cond v [] (average_row heads rows key ∷ [])) ≡ value_in rows key) [
      | true ↦ λ is.
          let none : stock_units rows key ≡ 0 = grind (arith, nat_tests) in
          let all : value_in rows key ≡ value_out rows key = nothing-by (formula key.item.0) rows key (are.costed key) (omega (arith, none, are.held key)) in
          omega (arith, all)
      | false ↦ λ is. omega (arith, covered, sum_by-cons shown_value (average_row heads rows key) [])
    ] in
    step (stock_units rows key == 0) refl

AreCosted-replay : (journal : List Record) → IsEnough (posting_line journal) → AreCosted (posting_line-formula journal).0 (rows_of journal (posting_line journal))
AreCosted-replay journal enough = AreCosted-rows_of (posting_line-formula journal).0 journal (posting_line journal) (posting_line-formula journal).1 enough

pub replay-units : (journal : List Record) (heads : List Head) (key : Key) → IsEnough (posting_line journal)
    → quantity_out (replay journal) key + sum_by shown_units (layer_rows heads (replay journal) key) ≡ quantity_in (replay journal) key
unfolding replay
replay-units journal heads key enough =
    let rows = rows_of journal (posting_line journal) in
    units-by (posting_line-formula journal).0 (formula_at rows key) heads rows key (AreCosted-replay journal enough)

pub replay-value : (journal : List Record) (heads : List Head) (key : Key) → IsEnough (posting_line journal)
    → value_out (replay journal) key + sum_by shown_value (layer_rows heads (replay journal) key) ≡ value_in (replay journal) key
unfolding replay
replay-value journal heads key enough =
    let rows = rows_of journal (posting_line journal) in
    let formula = (posting_line-formula journal).0 in
    let are = AreCosted-replay journal enough in
    value-by formula (formula_at rows key) heads rows key are (formula_at-is formula rows key are.formulas)

pub replay-nothing : (journal : List Record) (key : Key) → IsEnough (posting_line journal)
    → quantity_in (replay journal) key ≡ quantity_out (replay journal) key → value_in (replay journal) key ≡ value_out (replay journal) key
unfolding replay
replay-nothing journal key enough none =
    let rows = rows_of journal (posting_line journal) in
    let formula = (posting_line-formula journal).0 in
    nothing-by (formula key.item.0) rows key ((AreCosted-replay journal enough).costed key) none
