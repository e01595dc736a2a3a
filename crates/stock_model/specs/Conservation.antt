-- Where the value is that was received: in stock, on its way, or gone by what was sold, used or given back.
use Rattle.std.specs.Prelude.{ℕ, ◌-◌, Bool, true, false, not, List, filter, sum_by, unsigned_abs, if◌then◌else◌}
use Rattle.std.specs.List.{enumerate_from}
use Rattle.stock_nums.specs.declared.cause.Cause.{Cause}
use Rattle.stock_nums.specs.declared.cause.Cause.TheVariants.{Receipt, Issue, TransferLeaves, TransferEnters, CustomerReturn, SupplierReturn}
use Rattle.stock_nums.specs.declared.entry.Row.{Row}
use Rattle.stock_model.specs.declared.records.Record.{Record}
use Rattle.stock_model.specs.declared.vouchers.What.{What}
use Rattle.stock_model.specs.declared.vouchers.What.TheVariants.{Landed}
use Rattle.stock_model.specs.Entries.{is_live}
use Rattle.stock_model.specs.Sheets.{keys_of}
use Rattle.stock_model.specs.Sums.{value_of, stock_value}

-- goods are received from a supplier
abbrev pub is_receipt : Cause → Bool
is_receipt (Receipt amount) = true
is_receipt _ = false

-- goods are sold, or used by the firm itself
abbrev pub is_sale : Cause → Bool
is_sale (Issue sold) = sold
is_sale _ = false

abbrev pub is_use : Cause → Bool
is_use (Issue sold) = not sold
is_use _ = false

-- the two sides of a transfer
abbrev pub is_sent : Cause → Bool
is_sent TransferLeaves = true
is_sent _ = false

abbrev pub is_arrived : Cause → Bool
is_arrived TransferEnters = true
is_arrived _ = false

-- sold goods come back, and received ones go back
abbrev pub is_customer_return : Cause → Bool
is_customer_return (CustomerReturn target issued) = true
is_customer_return _ = false

abbrev pub is_supplier_return : Cause → Bool
is_supplier_return (SupplierReturn target amount received) = true
is_supplier_return _ = false

abbrev pub has_cause : (Cause → Bool) → Row → Bool
has_cause kind row = kind row.entry.cause

-- what the movements by this kind of cause are worth together
abbrev pub worth_by : (Cause → Bool) → List Row → ℕ
worth_by kind rows = sum_by value_of (filter (has_cause kind) rows)

-- the purchase price of a movement, 0 where it is none of a receipt
abbrev pub price_by : Cause → ℕ
price_by (Receipt amount) = unsigned_abs amount.0
price_by _ = 0

abbrev pub price_of : Row → ℕ
price_of row = price_by row.entry.cause

-- what was bought, at its purchase prices
abbrev pub purchases : List Row → ℕ
purchases rows = sum_by price_of rows

-- what a voucher charges in all
abbrev pub charge_by : What → ℕ
charge_by (Landed charge basis targets) = unsigned_abs charge.0
charge_by _ = 0

abbrev pub record_charge : Record → ℕ
record_charge item = charge_by item.what

-- what the record with this number charges in all, where it is in force
abbrev pub charge_if : (ℕ → Bool) → ℕ × Record → ℕ
charge_if live (n, item) = if live n then record_charge item else 0

-- the landed charges of a journal that are in force
abbrev pub charges : List Record → ℕ
charges journal = sum_by (charge_if (is_live journal)) (enumerate_from 1 journal)

-- what was received, with its landed charges
abbrev pub received : List Row → ℕ
received rows = worth_by is_receipt rows

-- what all warehouses hold of all items
abbrev pub in_stock : List Row → ℕ
in_stock rows = sum_by (stock_value rows) (keys_of rows)

-- what left by transfers, and what arrived by them
abbrev pub sent : List Row → ℕ
sent rows = worth_by is_sent rows

abbrev pub arrived : List Row → ℕ
arrived rows = worth_by is_arrived rows

-- what left and has not arrived
abbrev pub in_transit : List Row → ℕ
in_transit rows = sent rows - arrived rows

-- the cost of what was sold, and of what customers gave back
abbrev pub sold : List Row → ℕ
sold rows = worth_by is_sale rows

abbrev pub came_back : List Row → ℕ
came_back rows = worth_by is_customer_return rows

-- the cost of what was sold and has not come back
abbrev pub cost_of_sales : List Row → ℕ
cost_of_sales rows = sold rows - came_back rows

-- the cost of what was used
abbrev pub used : List Row → ℕ
used rows = worth_by is_use rows

-- the cost of what went back to suppliers
abbrev pub given_back : List Row → ℕ
given_back rows = worth_by is_supplier_return rows
