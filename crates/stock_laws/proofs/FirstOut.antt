-- First in, first out, over valued movements: what left cost what the first units that entered cost.
use Rattle.std.proofs.Common.{◌≡◌, ℕ, ◌+◌, ◌-◌, ◌<◌, ◌≤◌, Bool, true, false, cond, ◌&&◌, not, List, [], ◌∷◌, ◌++◌, get_or, filter, sum_by, refl, sym, ap, ◌∙◌, subst, arith}
use Rattle.std.specs.List.{All}
use Rattle.std.proofs.lemmas.List.{append-nil}
use Rattle.std.proofs.lemmas.List.Elements.{filter-append}
use Rattle.std.proofs.lemmas.List.Sums.{sum_by-append, sum_by-cons}
use Rattle.stock_nums.specs.FirstIn.{first_cost, next_cost}
use Rattle.stock_nums.proofs.FirstIn.{first_cost-all, first_cost-le, first_cost-mono, first_cost-append}
use Rattle.stock_nums.specs.Causes.{is_entering}
use Rattle.stock_nums.specs.declared.entry.Key.{Key}
use Rattle.stock_nums.specs.declared.entry.Row.{Row}
use Rattle.stock_model.specs.Sums.{is_of, enters_at, leaves_at, units_of, value_of, quantity_in, quantity_out}

-- a row that doesn't pass adds nothing to those that do
pub filter-without : (p : Row → Bool) (rows : List Row) (row : Row) → p row ≡ false → filter p (rows ++ row ∷ []) ≡ filter p rows
filter-without p rows row fails =
    filter-append p rows (row ∷ []) ∙ ap (λ (b : Bool). filter p rows ++ cond b (row ∷ []) []) fails ∙ append-nil (filter p rows)

-- a row that passes comes last
pub filter-with : (p : Row → Bool) (rows : List Row) (row : Row) → p row ≡ true → filter p (rows ++ row ∷ []) ≡ filter p rows ++ row ∷ []
filter-with p rows row passes =
    filter-append p rows (row ∷ []) ∙ ap (λ (b : Bool). filter p rows ++ cond b (row ∷ []) []) passes

pub sum_by-last : (f : Row → ℕ) (rows : List Row) (row : Row) → sum_by f (rows ++ row ∷ []) ≡ sum_by f rows + f row
sum_by-last f rows row = omega (arith, sum_by-append f rows (row ∷ []), sum_by-cons f row [])

-- each movement has units
pub units-some : (rows : List Row) → All (λ row. 0 < units_of row) rows
units-some rows k d within = (get_or rows k d).entry.quantity.0

-- what left, after what entered, has at most its units, and cost what the first of them cost
pub record IsFirstOut (ins outs : List Row) : Type 0 where
  pub held : sum_by units_of outs ≤ sum_by units_of ins
  pub cost : sum_by value_of outs ≡ first_cost units_of value_of ins (sum_by units_of outs)

pub IsFirstOut-nil : IsFirstOut [] []
IsFirstOut-nil = record { held = omega arith; cost = refl }

-- one more row that enters
IsFirstOut-entered : (ins outs : List Row) (row : Row) → IsFirstOut ins outs → IsFirstOut (ins ++ row ∷ []) outs
IsFirstOut-entered ins outs row out =
    record {
      held = omega (arith, out.held, sum_by-last units_of ins row);
      cost = out.cost ∙ sym (first_cost-append units_of value_of ins (row ∷ []) (sum_by units_of outs) (units-some (row ∷ [])) out.held);
    }

-- one more row that leaves and costs what the next units cost
IsFirstOut-left : (ins outs : List Row) (row : Row) → IsFirstOut ins outs → sum_by units_of outs + units_of row ≤ sum_by units_of ins
    → value_of row ≡ next_cost units_of value_of ins (sum_by units_of outs) (units_of row) → IsFirstOut ins (outs ++ row ∷ [])
IsFirstOut-left ins outs row out enough cost =
    let units = sum_by-last units_of outs row in
    let more = first_cost-mono units_of value_of ins (sum_by units_of outs) (sum_by units_of outs + units_of row) (omega arith) in
    record {
      held = omega (arith, units, enough);
      cost = subst (λ (n : ℕ). sum_by value_of (outs ++ row ∷ []) ≡ first_cost units_of value_of ins n) (sym units)
          (omega (arith, sum_by-last value_of outs row, out.cost, cost, more));
    }

-- the next units cost at most what is left of the value that entered
pub next_cost-le : (ins outs : List Row) (q : ℕ) → IsFirstOut ins outs → next_cost units_of value_of ins (sum_by units_of outs) q ≤ sum_by value_of ins - sum_by value_of outs
next_cost-le ins outs q out =
    let most = first_cost-le units_of value_of ins (sum_by units_of outs + q) in
    omega (arith, most, out.cost)

-- where all units left, all value did
pub IsFirstOut-all : (ins outs : List Row) → IsFirstOut ins outs → sum_by units_of ins ≤ sum_by units_of outs → sum_by value_of ins ≡ sum_by value_of outs
IsFirstOut-all ins outs out all = sym (out.cost ∙ first_cost-all units_of value_of ins (sum_by units_of outs) all)

-- so it is with an item in a warehouse
abbrev pub IsFirstOutAt : List Row → Key → Type 0
IsFirstOutAt rows key = IsFirstOut (filter (enters_at key) rows) (filter (leaves_at key) rows)

-- a row of the key that leaves has its units, and costs what the next ones cost
abbrev pub LeavesFirst : List Row → Key → Row → Type 0
LeavesFirst rows key row =
    leaves_at key row ≡ true
    → (quantity_out rows key + units_of row ≤ quantity_in rows key)
    × (value_of row ≡ next_cost units_of value_of (filter (enters_at key) rows) (quantity_out rows key) (units_of row))

-- of the two tests of a row, by whether it is of the key and whether it enters
IsFirstOutAt-by : (rows : List Row) (row : Row) (key : Key) (own enters : Bool) → is_of key row ≡ own → is_entering row.entry.place.side ≡ enters
    → IsFirstOutAt rows key → LeavesFirst rows key row → IsFirstOutAt (rows ++ row ∷ []) key
IsFirstOutAt-by rows row key false enters is side out leaves =
    let none_in = filter-without (enters_at key) rows row (ap (λ (b : Bool). b && is_entering row.entry.place.side) is) in
    let none_out = filter-without (leaves_at key) rows row (ap (λ (b : Bool). b && not (is_entering row.entry.place.side)) is) in
    subst (λ (ins : List Row). IsFirstOut ins (filter (leaves_at key) (rows ++ row ∷ []))) (sym none_in)
    (subst (λ (outs : List Row). IsFirstOut (filter (enters_at key) rows) outs) (sym none_out) out)
IsFirstOutAt-by rows row key true true is side out leaves =
    let one_in = filter-with (enters_at key) rows row (ap (λ (b : Bool). b && is_entering row.entry.place.side) is ∙ side) in
    let none_out = filter-without (leaves_at key) rows row (ap (λ (b : Bool). b && not (is_entering row.entry.place.side)) is ∙ ap not side) in
    subst (λ (ins : List Row). IsFirstOut ins (filter (leaves_at key) (rows ++ row ∷ []))) (sym one_in)
    (subst (λ (outs : List Row). IsFirstOut (filter (enters_at key) rows ++ row ∷ []) outs) (sym none_out)
    (IsFirstOut-entered (filter (enters_at key) rows) (filter (leaves_at key) rows) row out))
IsFirstOutAt-by rows row key true false is side out leaves =
    let none_in = filter-without (enters_at key) rows row (ap (λ (b : Bool). b && is_entering row.entry.place.side) is ∙ side) in
    let passes : leaves_at key row ≡ true = ap (λ (b : Bool). b && not (is_entering row.entry.place.side)) is ∙ ap not side in
    let one_out = filter-with (leaves_at key) rows row passes in
    subst (λ (ins : List Row). IsFirstOut ins (filter (leaves_at key) (rows ++ row ∷ []))) (sym none_in)
    (subst (λ (outs : List Row). IsFirstOut (filter (enters_at key) rows) outs) (sym one_out)
    (IsFirstOut-left (filter (enters_at key) rows) (filter (leaves_at key) rows) row out (leaves passes).0 (leaves passes).1))

-- one more row
pub IsFirstOutAt-next : (rows : List Row) (row : Row) (key : Key) → IsFirstOutAt rows key → LeavesFirst rows key row → IsFirstOutAt (rows ++ row ∷ []) key
IsFirstOutAt-next rows row key = IsFirstOutAt-by rows row key (is_of key row) (is_entering row.entry.place.side) refl refl
