-- What charges come to for one line of a receipt.
use Rattle.std.specs.Prelude.{ℕ, ◌≡◌, true, List, Contains, map, filter, sum_by, unsigned_abs}
use Rattle.stock_nums.specs.LineSums.{has_room}
use Rattle.stock_nums.specs.declared.cause.Target.{Target}
use Rattle.stock_nums.specs.declared.line_sums.LineSums.{LineSums}
use Rattle.stock_nums.specs.declared.numbers.Minor.{Minor}
use Rattle.stock_model.specs.LandedCost.{is_charge_of, charge_amount}
use Rattle.cost_links.specs.declared.charges.Charge.{Charge}

-- how many minor units an amount has, which is not below 0
abbrev pub amount : Minor → ℕ
amount money = unsigned_abs money.0

-- what these charges charge to the line
abbrev pub charged_to : Target → List (Target × ℕ) → ℕ
charged_to line charges = sum_by charge_amount (filter (is_charge_of line) charges)

-- a charge as a line and its amount
abbrev pub charge_pair : Charge → Target × ℕ
charge_pair charge = (charge.line, amount charge.amount)

abbrev pub charge_pairs : List Charge → List (Target × ℕ)
charge_pairs charges = map charge_pair charges

-- nothing is charged to the line
abbrev pub with_nothing : Target → Target × ℕ
with_nothing line = (line, 0)

-- to add the charges takes no memory
abbrev pub HaveRoom : LineSums → List Charge → Type 0
HaveRoom sums charges = (charge : Charge) → Contains charges charge → has_room sums charge.line ≡ true
