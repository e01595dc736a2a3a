-- What is held after one more movement, and that it fits.
use Rattle.std.proofs.Common.{◌≡◌, ℕ, ◌+◌, ◌-◌, ◌*◌, ◌<◌, ◌≤◌, Bool, true, false, cond, not, List, [], ◌∷◌, ◌++◌, length, take, get_or, filter, sum_by, sym, ap, ◌∙◌, subst, arith}
use Rattle.std.specs.List.{All}
use Rattle.std.proofs.Math.Nat.{mul-le-mul_right}
use Rattle.std.proofs.lemmas.Bool.Decides.{nat_tests}
use Rattle.std.proofs.lemmas.Int.{ints}
use Rattle.std.proofs.lemmas.List.{take_more, length-take-le}
use Rattle.std.proofs.lemmas.List.Elements.{All-filter, All-get_or, All-weaker}
use Rattle.std.proofs.lemmas.List.Sums.{sum_by-le, length-filter, count_by-le-length, AllPass-from_list_all}
use Rattle.stock_nums.specs.declared.entry.Row.{Row}
use Rattle.stock_nums.specs.declared.limits.TheConstants.{MAX_ENTRIES, MAX_VALUE}
use Rattle.stock_model.specs.Bounds.{has_value_in_range}
use Rattle.stock_model.specs.Sums.{units_of, value_of}
use Rattle.stock_laws.proofs.TestedSums.{counted, tested-snoc}
use Rattle.valuation_report.specs.declared.holdings.Holding.{Holding}
use Rattle.valuation_report.specs.Holdings.{row_enters, row_leaves, units_in, units_out, worth_in, worth_out, worth_held, holding_of, next_holding, HasRoom, AreHeld}

-- holdings with the same numbers are one
same_holding : (a b : Holding) → a.entered ≡ b.entered → a.left ≡ b.left → a.value ≡ b.value → a ≡ b
same_holding a b entered left value i = record { entered = entered i; left = left i; value = value i }

-- the numbers after one more movement, which enters or does not
by_side : (side : Bool) (rows : List Row) (row : Row) (after : Holding) → worth_out rows ≤ worth_in rows
    → after.entered ≡ units_in rows + counted side (units_of row) → after.left ≡ units_out rows + counted (not side) (units_of row)
    → after.value ≡ worth_in rows + counted side (value_of row) - (worth_out rows + counted (not side) (value_of row))
    → after ≡ (cond side
    (record { entered = units_in rows + units_of row; left = units_out rows; value = worth_held rows + value_of row })
    (record { entered = units_in rows; left = units_out rows + units_of row; value = worth_held rows - value_of row }))
by_side true rows row after covered entered left value = same_holding _ _ entered (omega (arith, left)) (omega (arith, value))
by_side false rows row after covered entered left value = same_holding _ _ (omega (arith, entered)) left (omega (arith, value))

pub holding_of-snoc : (rows : List Row) (row : Row) → worth_out rows ≤ worth_in rows → holding_of (rows ++ row ∷ []) ≡ next_holding (holding_of rows) row
holding_of-snoc rows row covered =
    by_side (row_enters row) rows row (holding_of (rows ++ row ∷ [])) covered (tested-snoc units_of row_enters rows row) (tested-snoc units_of row_leaves rows row)
    (let entered : worth_in (rows ++ row ∷ []) ≡ worth_in rows + counted (row_enters row) (value_of row) = tested-snoc value_of row_enters rows row in
    let left : worth_out (rows ++ row ∷ []) ≡ worth_out rows + counted (row_leaves row) (value_of row) = tested-snoc value_of row_leaves rows row in
    omega (arith, entered, left))

-- the next holding in a list
holding_of-more : (rows : List Row) (i : ℕ) (row : Row) → AreHeld rows → i < length rows → holding_of (take (i + 1) rows) ≡ next_holding (holding_of (take i rows)) (get_or rows i row)
holding_of-more rows i row held within = ap holding_of (take_more rows i row within) ∙ holding_of-snoc (take i rows) (get_or rows i row) (held.never_negative i)

-- sums over some of the rows
sum_filtered-le : (m : ℕ) (f : Row → ℕ) (p : Row → Bool) (rows : List Row) → All (λ row. f row ≤ m) rows → sum_by f (filter p rows) ≤ length rows * m
sum_filtered-le m f p rows all =
    let kept : sum_by f (filter p rows) ≤ length (filter p rows) * m = sum_by-le f m (filter p rows) (All-filter p (λ row. f row ≤ m) rows all) in
    let fewer : length (filter p rows) ≤ length rows = omega (arith, length-filter p rows, count_by-le-length p rows) in
    omega (arith, kept, mul-le-mul_right m fewer)

units-le : (rows : List Row) → All (λ row. units_of row ≤ 1_000_000_000) rows
units-le rows k d within = (get_or rows k d).entry.quantity.1

pub units-fit : (p : Row → Bool) (rows : List Row) → length rows ≤ MAX_ENTRIES → sum_by units_of (filter p rows) ≤ 200_000_000_000_000
units-fit p rows few = omega (arith, sum_filtered-le 1_000_000_000 units_of p rows (units-le rows), few)

value_of-le : (row : Row) → has_value_in_range row ≡ true → value_of row ≤ MAX_VALUE
value_of-le row h = grind (arith, ints, nat_tests)

pub row_value-le : (rows : List Row) (i : ℕ) (row : Row) → AreHeld rows → i < length rows → value_of (get_or rows i row) ≤ MAX_VALUE
row_value-le rows i row held within =
    All-get_or (λ r. value_of r ≤ MAX_VALUE) rows i row within
    (All-weaker (λ r. has_value_in_range r ≡ true) (λ r. value_of r ≤ MAX_VALUE) value_of-le rows (AllPass-from_list_all has_value_in_range rows held.in_range))

-- what leaves was held
leaving-le : (rows : List Row) (row : Row) → worth_out (rows ++ row ∷ []) ≤ worth_in (rows ++ row ∷ []) → row_enters row ≡ false → value_of row ≤ worth_held rows
leaving-le rows row covered leaves =
    let entered : worth_in (rows ++ row ∷ []) ≡ worth_in rows + 0 = tested-snoc value_of row_enters rows row ∙ ap (λ (b : Bool). worth_in rows + counted b (value_of row)) leaves in
    let left : worth_out (rows ++ row ∷ []) ≡ worth_out rows + value_of row = tested-snoc value_of row_leaves rows row ∙ ap (λ (b : Bool). worth_out rows + counted (not b) (value_of row)) leaves in
    omega (arith, entered, left, covered)

has_room : (rows : List Row) (i : ℕ) (row : Row) → AreHeld rows → i < length rows → HasRoom (holding_of (take i rows)) (get_or rows i row)
has_room rows i row held within =
    let here = get_or rows i row in
    let front = take i rows in
    let few : length front ≤ MAX_ENTRIES = omega (arith, length-take-le i rows, held.few) in
    let units : units_of here ≤ 1_000_000_000 = here.entry.quantity.1 in
    let covered : worth_out (front ++ here ∷ []) ≤ worth_in (front ++ here ∷ []) =
    subst (λ (all : List Row). worth_out all ≤ worth_in all) (take_more rows i row within) (held.never_negative (i + 1)) in
    record {
      entered = omega (arith, units-fit row_enters front few, units);
      left = omega (arith, units-fit row_leaves front few, units);
      value = omega (arith, held.not_large i, row_value-le rows i row held within);
      held = leaving-le front here covered;
    }

-- the same of a row that was read
pub room_for : (rows : List Row) (i : ℕ) (row : Row) (holding : Holding) → AreHeld rows → i < length rows → row ≡ get_or rows i row → holding ≡ holding_of (take i rows) → HasRoom holding row
room_for rows i row holding held within read so_far =
    subst (λ (h : Holding). HasRoom h row) (sym so_far)
    (subst (λ (r : Row). HasRoom (holding_of (take i rows)) r) (sym read) (has_room rows i row held within))

pub held_with : (rows : List Row) (i : ℕ) (row : Row) (holding : Holding) → AreHeld rows → i < length rows → row ≡ get_or rows i row → holding ≡ holding_of (take i rows) → next_holding holding row ≡ holding_of (take (i + 1) rows)
held_with rows i row holding held within read so_far =
    ap (λ (h : Holding). next_holding h row) so_far ∙ ap (next_holding (holding_of (take i rows))) read ∙ sym (holding_of-more rows i row held within)
