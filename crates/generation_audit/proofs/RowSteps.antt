-- Sums over rows with one more row, and what they have room for.
use Rattle.std.proofs.Common.{◌≡◌, ℕ, ℤ, pos, ◌+◌, ◌*◌, ◌^◌, ◌<◌, ◌≤◌, ◌≤ℤ◌, ◌+ℤ◌, Bool, true, false, cond, ◌&&◌, not, List, [], ◌∷◌, ◌++◌, length, map, filter, sum_by, refl, sym, ap, ◌∙◌, subst, suc, length-append, append-nil, arith}
use Rattle.std.specs.List.{list_all}
use Rattle.std.proofs.lemmas.Bool.{false≢true}
use Rattle.std.proofs.lemmas.Bool.Decides.{nat_tests}
use Rattle.std.proofs.lemmas.Int.{ints}
use Rattle.std.proofs.lemmas.List.{map-append, take_all, take-append-le}
use Rattle.std.proofs.lemmas.List.Elements.{filter-append}
use Rattle.std.proofs.lemmas.List.Folds.{list_all-append}
use Rattle.std.proofs.lemmas.List.Sums.{sum_by-cons}
use Rattle.stock_nums.specs.Causes.{is_entering}
use Rattle.stock_nums.specs.LineSums.{number_of}
use Rattle.stock_nums.specs.declared.cause.Cause.TheVariants.{Receipt}
use Rattle.stock_nums.specs.declared.cause.Method.{Method}
use Rattle.stock_nums.specs.declared.cause.Method.TheVariants.{Fifo, Average}
use Rattle.stock_nums.specs.declared.cause.Target.{Target}
use Rattle.stock_nums.specs.declared.entry.Entry.{Entry}
use Rattle.stock_nums.specs.declared.entry.Key.{Key}
use Rattle.stock_nums.specs.declared.entry.Row.{Row}
use Rattle.stock_nums.specs.declared.limits.TheConstants.{MAX_VALUE}
use Rattle.stock_nums.specs.declared.line_sums.LineSums.{LineSums}
use Rattle.stock_nums.specs.declared.numbers.Minor.{Minor}
use Rattle.stock_model.specs.Bounds.{has_value_in_range, AreBounded}
use Rattle.stock_model.specs.Enough.{entry_key, entry_units, is_same_key}
use Rattle.stock_model.specs.LandedCost.{added}
use Rattle.stock_model.specs.Replay.{valued}
use Rattle.stock_model.specs.Returns.{is_return_of, returns_of, returned}
use Rattle.stock_model.specs.Sums.{row_entry, is_of, enters_at, leaves_at, units_of, value_of, quantity_in, quantity_out, value_in, value_out}
use Rattle.stock_model.specs.Values.{own_line, leaves_by, line_cost, returned_before, cost_by, value_by}
use Rattle.stock_model.specs.declared.records.Record.{Record}
use Rattle.stock_laws.proofs.Bounds.{quantity_in-le, quantity_out-le, value_in-le, value_out-le}
use Rattle.stock_laws.proofs.Enough.{is_same_key-true}
use Rattle.cost_links.specs.Ready.{IsReady}
use Rattle.cost_links.specs.Replayed.{AreSumsOf}
use Rattle.cost_links.proofs.LastOne.{sum_where-next}
use Rattle.cost_links.proofs.RowSums.{bounds, receipt-bounds, value-in_range, value_by-leaving}
use Rattle.cost_links.proofs.StockSteps.{AreSumsWith-is}
use Rattle.generation_audit.specs.KeySums.{Sums, with_row, cost_of, HasRoom, HasCost, moved_of}

both_true : (a b : Bool) → (a && b) ≡ true → (a ≡ true) × (b ≡ true)
both_true true b h = (refl, h)
both_true false b h = absurd (false≢true h)

-- what all rows pass, the first ones and the last pass
pub fronts-pass : (rows : List Row) (row : Row) → list_all has_value_in_range (rows ++ row ∷ []) ≡ true
    → (list_all has_value_in_range rows ≡ true) × (has_value_in_range row ≡ true)
fronts-pass rows row all =
    let parts = both_true (list_all has_value_in_range rows) (has_value_in_range row && true) (sym (list_all-append has_value_in_range rows (row ∷ [])) ∙ all) in
    (parts.0, (both_true (has_value_in_range row) true parts.1).0)

small-value : (row : Row) → has_value_in_range row ≡ true → value_of row ≤ MAX_VALUE
small-value row h = grind (arith, ints, nat_tests)

-- a sum over some elements of a list is at most that many times the largest
some-le : {X : Type 0} (f : X → ℕ) (m : ℕ) (p : X → Bool) (test : X → Bool) → ((x : X) → test x ≡ true → f x ≤ m) → (xs : List X) → list_all test xs ≡ true
    → sum_by f (filter p xs) ≤ length xs * m
some-le f m p test small [] all = omega arith
some-le {X = X} f m p test small (x ∷ xs) all =
    let parts = both_true (test x) (list_all test xs) all in
    let longer : length (x ∷ xs) ≡ length xs + 1 = omega arith in
    by_cases (p x) (some-le f m p test small xs parts.1) (small x parts.0) longer
  where
    by_cases : (b : Bool) → sum_by f (filter p xs) ≤ length xs * m → f x ≤ m → length (x ∷ xs) ≡ length xs + 1 → sum_by f (cond b (x ∷ filter p xs) (filter p xs)) ≤ length (x ∷ xs) * m
    by_cases true rest own longer = omega (arith, sum_by-cons f x (filter p xs), rest, own, longer, more (length xs) (length (x ∷ xs)) longer)
      where
        more : (n k : ℕ) → k ≡ n + 1 → k * m ≡ n * m + m
        more n k is = ap (λ (j : ℕ). j * m) is ∙ omega arith
    by_cases false rest own longer = omega (arith, rest, longer, more (length xs) (length (x ∷ xs)) longer)
      where
        more : (n k : ℕ) → k ≡ n + 1 → k * m ≡ n * m + m
        more n k is = ap (λ (j : ℕ). j * m) is ∙ omega arith

-- the sums have room for one more row
pub room-for : (rows : List Row) (row : Row) (key : Key) → AreBounded (rows ++ row ∷ []) → HasRoom (moved_of rows key) row
room-for rows row key bounded =
    let all = rows ++ row ∷ [] in
    let own = (fronts-pass rows row bounded.in_range).1 in
    let value = small-value row own in
    let units = row.entry.quantity.1 in
    record {
      units_in = omega (arith, sum_where-next units_of (enters_at key) rows row, quantity_in-le all key bounded, units);
      units_out = omega (arith, sum_where-next units_of (leaves_at key) rows row, quantity_out-le all key bounded, units);
      value_in = omega (arith, sum_where-next value_of (enters_at key) rows row, value_in-le all key bounded, value);
      value_out = omega (arith, sum_where-next value_of (leaves_at key) rows row, value_out-le all key bounded, value);
    }

-- what left by a line has room for more
pub costs-room : (rows : List Row) (row : Row) (line : Target) → AreBounded (rows ++ row ∷ []) → line_cost rows line < 2 ^ 127
costs-room rows row line bounded =
    omega (arith, some-le value_of MAX_VALUE (leaves_by line) has_value_in_range small-value rows (fronts-pass rows row bounded.in_range).0, length-append rows (row ∷ []), bounded.few)

few_units : (e : Entry) → true ≡ true → entry_units e ≤ 1_000_000_000
few_units e is = e.quantity.1

all-pass : {X : Type 0} (xs : List X) → list_all (λ x. true) xs ≡ true
all-pass [] = refl
all-pass (x ∷ xs) = all-pass xs

length-entries : (rows : List Row) → length (map row_entry rows) ≡ length rows
length-entries [] = refl
length-entries (row ∷ rows) = ap suc (length-entries rows)

-- so have the units that were returned of it
pub returns-room : (rows : List Row) (row : Row) (line : Target) → AreBounded (rows ++ row ∷ []) → returned_before rows line < 2 ^ 127
returns-room rows row line bounded =
    let es = map row_entry rows in
    omega (arith, some-le entry_units 1_000_000_000 (returns_of line) (λ e. true) few_units es (all-pass es), length-entries rows, length-append rows (row ∷ []), bounded.few)

-- the sums of lines with one more row
pub sums-next : (rows : List Row) (row : Row) (old costs old_returns returns : LineSums) → AreSumsOf rows old old_returns
    → ((line : Target) → number_of costs line ≡ number_of old line + cond (leaves_by line row) (value_of row) 0)
    → ((line : Target) → number_of returns line ≡ number_of old_returns line + cond (is_return_of line row.entry.cause) (units_of row) 0)
    → AreSumsOf (rows ++ row ∷ []) costs returns
sums-next rows row old costs old_returns returns sums more more_back =
    record {
      left = λ line. omega (arith, sums.left line, more line, sum_where-next value_of (leaves_by line) rows row);
      back = λ line.
          let next : returned_before (rows ++ row ∷ []) line ≡ returned_before rows line + cond (is_return_of line row.entry.cause) (units_of row) 0 =
          ap (λ (es : List Entry). returned es line) (map-append row_entry rows (row ∷ []))
          ∙ sum_where-next entry_units (returns_of line) (map row_entry rows) row.entry in
          omega (arith, sums.back line, more_back line, next);
    }

-- a filter with one more element
filter-next : (p : Row → Bool) (rows : List Row) (row : Row) (b : Bool) → p row ≡ b → filter p (rows ++ row ∷ []) ≡ filter p rows ++ cond b (row ∷ []) []
filter-next p rows row b is = filter-append p rows (row ∷ []) ∙ ap (λ (v : Bool). filter p rows ++ cond v (row ∷ []) []) is

same_moved : (a b : Sums) → a.entered ≡ b.entered → a.units_in ≡ b.units_in → a.units_out ≡ b.units_out → a.value_in ≡ b.value_in → a.value_out ≡ b.value_out → a ≡ b
same_moved a b entered ui uo vi vo = λ i. record { entered = entered i; units_in = ui i; units_out = uo i; value_in = vi i; value_out = vo i }

-- the sums of a key with one more row of another key
moved-other : (rows : List Row) (row : Row) (key : Key) → is_of key row ≡ false → moved_of (rows ++ row ∷ []) key ≡ moved_of rows key
moved-other rows row key other = by_side (is_entering row.entry.place.side) refl
  where
    by_side : (enters : Bool) → is_entering row.entry.place.side ≡ enters → moved_of (rows ++ row ∷ []) key ≡ moved_of rows key
    by_side enters side =
        let sums = AreSumsWith-is rows row key false enters other side in
        let none : enters_at key row ≡ false = ap (λ (b : Bool). b && is_entering row.entry.place.side) other in
        same_moved _ _ (filter-next (enters_at key) rows row false none ∙ append-nil (filter (enters_at key) rows))
        (omega (arith, sums.units_in)) (omega (arith, sums.units_out)) (omega (arith, sums.worth_in)) (omega (arith, sums.worth_out))

-- and with one of its own
moved-own : (rows : List Row) (row : Row) (key : Key) → is_of key row ≡ true → moved_of (rows ++ row ∷ []) key ≡ with_row (moved_of rows key) row
moved-own rows row key own = by_side (is_entering row.entry.place.side) refl
  where
    of : Bool → Sums
    of b = cond b (record {
      entered = filter (enters_at key) rows ++ row ∷ [];
      units_in = quantity_in rows key + units_of row;
      units_out = quantity_out rows key;
      value_in = value_in rows key + value_of row;
      value_out = value_out rows key;
    }) (record {
      entered = filter (enters_at key) rows;
      units_in = quantity_in rows key;
      units_out = quantity_out rows key + units_of row;
      value_in = value_in rows key;
      value_out = value_out rows key + value_of row;
    })

    by_side : (enters : Bool) → is_entering row.entry.place.side ≡ enters → moved_of (rows ++ row ∷ []) key ≡ with_row (moved_of rows key) row
    by_side true side =
        let sums = AreSumsWith-is rows row key true true own side in
        let in_it : enters_at key row ≡ true = ap (λ (b : Bool). b && is_entering row.entry.place.side) own ∙ side in
        same_moved _ (of true) (filter-next (enters_at key) rows row true in_it)
        (omega (arith, sums.units_in)) (omega (arith, sums.units_out)) (omega (arith, sums.worth_in)) (omega (arith, sums.worth_out)) ∙ ap of (sym side)
    by_side false side =
        let sums = AreSumsWith-is rows row key true false own side in
        let not_in : enters_at key row ≡ false = ap (λ (b : Bool). b && is_entering row.entry.place.side) own ∙ side in
        same_moved _ (of false) (filter-next (enters_at key) rows row false not_in ∙ append-nil (filter (enters_at key) rows))
        (omega (arith, sums.units_in)) (omega (arith, sums.units_out)) (omega (arith, sums.worth_in)) (omega (arith, sums.worth_out)) ∙ ap of (sym side)

-- the sums of each key with one more row
pub moved-next : (rows : List Row) (row : Row) (key : Key) (old : Key → Sums) (new : Sums) → ((k : Key) → old k ≡ moved_of rows k)
    → new ≡ cond (is_same_key (entry_key row.entry) key) (with_row (old (entry_key row.entry)) row) (old key)
    → new ≡ moved_of (rows ++ row ∷ []) key
moved-next rows row key old new are is = by_key (is_same_key (entry_key row.entry) key) refl
  where
    by_key : (b : Bool) → is_same_key (entry_key row.entry) key ≡ b → new ≡ moved_of (rows ++ row ∷ []) key
    by_key true same =
        let own : entry_key row.entry ≡ key = is_same_key-true (entry_key row.entry) key same in
        is ∙ ap (λ (b : Bool). cond b (with_row (old (entry_key row.entry)) row) (old key)) same
        ∙ ap (λ (m : Sums). with_row m row) (are (entry_key row.entry) ∙ ap (moved_of rows) own) ∙ sym (moved-own rows row key same)
    by_key false other =
        is ∙ ap (λ (b : Bool). cond b (with_row (old (entry_key row.entry)) row) (old key)) other ∙ are key ∙ sym (moved-other rows row key other)

-- the cost over the sums is the movement's cost over the rows
pub cost-is : (method : Method) (before : List Row) (e : Entry) → cost_of method (moved_of before (entry_key e)) e.qty.0 ≡ cost_by method before e
cost-is Fifo before e = refl
cost-is Average before e = refl

length-filtered : (p : Row → Bool) (rows : List Row) → length (filter p rows) ≤ length rows
length-filtered p [] = omega arith
length-filtered p (row ∷ rows) = by_cases (p row) (length-filtered p rows)
  where
    by_cases : (b : Bool) → length (filter p rows) ≤ length rows → length (cond b (row ∷ filter p rows) (filter p rows)) ≤ length (row ∷ rows)
    by_cases true rest = omega (arith, rest)
    by_cases false rest = omega (arith, rest)

filtered-pass : (p test : Row → Bool) (rows : List Row) → list_all test rows ≡ true → list_all test (filter p rows) ≡ true
filtered-pass p test [] all = refl
filtered-pass p test (row ∷ rows) all =
    let parts = both_true (test row) (list_all test rows) all in
    by_cases (p row) parts.0 (filtered-pass p test rows parts.1)
  where
    by_cases : (b : Bool) → test row ≡ true → list_all test (filter p rows) ≡ true → list_all test (cond b (row ∷ filter p rows) (filter p rows)) ≡ true
    by_cases true own rest = ap (λ (v : Bool). v && list_all test (filter p rows)) own ∙ rest
    by_cases false own rest = rest

within_range : (n : ℕ) (z : ℤ) → z ≡ pos n → (pos 0 ≤ℤ z) × (z ≤ℤ pos MAX_VALUE) → n ≤ MAX_VALUE
within_range n z is bounds = omega (arith, ints, is, bounds)

-- the movement's units are held, and their cost is in range
pub has-cost : (journal : List Record) (before : List Row) (e : Entry) → IsReady journal before e → not (is_entering e.place.side) ≡ true
    → HasCost e.method (moved_of before (entry_key e)) e.qty.0
has-cost journal before e ready leaves =
    let key = entry_key e in
    let all = before ++ valued journal before e ∷ [] in
    let passed = fronts-pass before (valued journal before e) ready.bounded.in_range in
    let ins = sum_where-next units_of (enters_at key) before (valued journal before e) in
    let outs = sum_where-next units_of (leaves_at key) before (valued journal before e) in
    let most_in = quantity_in-le all key ready.bounded in
    let most_out = quantity_out-le all key ready.bounded in
    let near = front_bounds before (valued journal before e) key ready.bounded in
    record {
      some = e.quantity.0;
      held = ready.held leaves;
      few_units = omega (arith, ins, most_in);
      few_out = omega (arith, outs, most_out);
      no_less = near.0;
      small = omega (arith, near.1);
      few = omega (arith, length-filtered (enters_at key) before, length-append before (valued journal before e ∷ []), ready.bounded.few);
      in_range = filtered-pass (enters_at key) has_value_in_range before passed.0;
      fits = fits_in;
    }
  where
    front_bounds : (rows : List Row) (row : Row) (key : Key) → AreBounded (rows ++ row ∷ []) → (value_out rows key ≤ value_in rows key) × (value_in rows key ≤ value_out rows key + MAX_VALUE)
    front_bounds rows row key bounded =
        let front = take-append-le (length rows) rows (row ∷ []) (omega arith) ∙ take_all (length rows) rows (omega arith) in (
          subst (λ (rs : List Row). value_out rs key ≤ value_in rs key) front (bounded.never_negative (length rows) key),
          subst (λ (rs : List Row). value_in rs key ≤ value_out rs key + MAX_VALUE) front (bounded.not_large (length rows) key),
        )

    fits_in : cost_of e.method (moved_of before (entry_key e)) e.qty.0 ≤ MAX_VALUE
    fits_in =
        let is : value_by journal before e e.cause ≡ pos (cost_by e.method before e) = value_by-leaving journal before e e.cause e.sides leaves in
        let range = bounds (value_by journal before e e.cause) (value-in_range journal before e ready) in
        let small : cost_by e.method before e ≤ MAX_VALUE = within_range (cost_by e.method before e) (value_by journal before e e.cause) is range in
        subst (λ (n : ℕ). n ≤ MAX_VALUE) (sym (cost-is e.method before e)) small

not_more : (amount : ℤ) (n : ℕ) → (pos 0 ≤ℤ amount) × ((amount +ℤ pos n) ≤ℤ pos MAX_VALUE) → n ≤ MAX_VALUE
not_more amount n h = omega (arith, ints, h)

-- what is charged to a receipt is in range
pub added-small : (journal : List Record) (before : List Row) (e : Entry) (amount : Minor) → IsReady journal before e → e.cause ≡ Receipt amount
    → added journal (own_line e) ≤ MAX_VALUE
added-small journal before e amount ready is = not_more amount.0 (added journal (own_line e)) (receipt-bounds journal before e amount ready is)
