-- What the rows of a balance sum to.
use Rattle.std.specs.Prelude.{ℕ, ◌+◌, ◌-◌, List, sum_by, unsigned_abs}
use Rattle.stock_model.specs.declared.sheet_rows.BalanceRow.{BalanceRow}
use Rattle.valuation_report.specs.declared.balance_sums.BalanceSums.{BalanceSums}
use Rattle.valuation_report.specs.declared.holdings.Holding.{Holding}

abbrev pub quantity_shown : BalanceRow → ℕ
quantity_shown row = row.qty.0

-- no value of a balance is negative
abbrev pub value_shown : BalanceRow → ℕ
value_shown row = unsigned_abs row.value.0

-- all quantities together, and all values
abbrev pub sums_of : List BalanceRow → BalanceSums
sums_of rows = record { stock = sum_by quantity_shown rows; worth = sum_by value_shown rows }

-- with what is held of one more item in a warehouse
abbrev pub with_holding : BalanceSums → Holding → BalanceSums
with_holding sums holding =
    record { stock = sums.stock + (holding.entered - holding.left); worth = sums.worth + holding.value }
