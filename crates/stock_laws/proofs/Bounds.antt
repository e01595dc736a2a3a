-- How large the sums over bounded rows can be.
use Rattle.std.proofs.Common.{◌≡◌, ℕ, ◌+◌, ◌*◌, ◌≤◌, Bool, true, List, length, get_or, filter, sum_by, arith, subst}
use Rattle.std.specs.List.{All}
use Rattle.std.proofs.Math.Nat.{mul-le-mul_right}
use Rattle.std.proofs.lemmas.List.{take_all}
use Rattle.std.proofs.lemmas.List.Sums.{sum_by-le, length-filter, count_by-le-length, AllPass-from_list_all}
use Rattle.std.proofs.lemmas.List.Elements.{All-filter, All-weaker}
use Rattle.std.proofs.lemmas.Bool.Decides.{nat_tests}
use Rattle.std.proofs.lemmas.Int.{ints}
use Rattle.stock_nums.specs.declared.entry.Key.{Key}
use Rattle.stock_nums.specs.declared.entry.Row.{Row}
use Rattle.stock_model.specs.Sums.{enters_at, leaves_at, units_of, value_of, quantity_in, quantity_out, value_in, value_out}
use Rattle.stock_nums.specs.declared.limits.TheConstants.{MAX_ENTRIES, MAX_VALUE}
use Rattle.stock_model.specs.Bounds.{has_value_in_range, AreBounded}

-- a sum over some of the rows is at most as many times the largest as there are rows
sum_filtered-le : (f : Row → ℕ) (m : ℕ) (p : Row → Bool) (rows : List Row) → All (λ row. f row ≤ m) rows → sum_by f (filter p rows) ≤ length rows * m
sum_filtered-le f m p rows all =
    let kept : sum_by f (filter p rows) ≤ length (filter p rows) * m = sum_by-le f m (filter p rows) (All-filter p (λ row. f row ≤ m) rows all) in
    let fewer : length (filter p rows) ≤ length rows = omega (arith, length-filter p rows, count_by-le-length p rows) in
    omega (arith, kept, mul-le-mul_right m fewer)

-- a movement is worth at most 3 * 10^17
value_of-le : (row : Row) → has_value_in_range row ≡ true → value_of row ≤ MAX_VALUE
value_of-le row h = grind (arith, ints, nat_tests)

units-le : (rows : List Row) → All (λ row. units_of row ≤ 1_000_000_000) rows
units-le rows k d within = (get_or rows k d).entry.quantity.1

values-le : (rows : List Row) → AreBounded rows → All (λ row. value_of row ≤ MAX_VALUE) rows
values-le rows bounded =
    All-weaker (λ row. has_value_in_range row ≡ true) (λ row. value_of row ≤ MAX_VALUE) value_of-le rows
    (AllPass-from_list_all has_value_in_range rows bounded.in_range)

-- what entered a warehouse is at most 2 * 10^14 units
pub quantity_in-le : (rows : List Row) (key : Key) → AreBounded rows → quantity_in rows key ≤ 200_000_000_000_000
quantity_in-le rows key bounded =
    omega (arith, sum_filtered-le units_of 1_000_000_000 (enters_at key) rows (units-le rows), bounded.few)

pub quantity_out-le : (rows : List Row) (key : Key) → AreBounded rows → quantity_out rows key ≤ 200_000_000_000_000
quantity_out-le rows key bounded =
    omega (arith, sum_filtered-le units_of 1_000_000_000 (leaves_at key) rows (units-le rows), bounded.few)

-- all that entered a warehouse is worth at most as many times what a movement is as a journal may have
pub value_in-le : (rows : List Row) (key : Key) → AreBounded rows → value_in rows key ≤ MAX_ENTRIES * MAX_VALUE
value_in-le rows key bounded =
    omega (arith, sum_filtered-le value_of MAX_VALUE (enters_at key) rows (values-le rows bounded), bounded.few)

pub value_out-le : (rows : List Row) (key : Key) → AreBounded rows → value_out rows key ≤ MAX_ENTRIES * MAX_VALUE
value_out-le rows key bounded =
    omega (arith, sum_filtered-le value_of MAX_VALUE (leaves_at key) rows (values-le rows bounded), bounded.few)

-- and what it holds at most what a movement is
pub value_in-stock : (rows : List Row) (key : Key) → AreBounded rows → value_in rows key ≤ value_out rows key + MAX_VALUE
value_in-stock rows key bounded =
    subst (λ (all : List Row). value_in all key ≤ value_out all key + MAX_VALUE) (take_all (length rows) rows (omega arith)) (bounded.not_large (length rows) key)
