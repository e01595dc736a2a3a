-- The limits of a cause's numbers, and which way its movements go.
use Rattle.std.specs.Prelude.{Bool, true, false, not, ◌&&◌, if◌then◌else◌}
use Rattle.stock_nums.specs.Quantities.{is_line_quantity, is_line_amount}
use Rattle.stock_nums.specs.declared.cause.Cause.{Cause}
use Rattle.stock_nums.specs.declared.cause.Cause.TheVariants.{Receipt, Issue, TransferLeaves, TransferEnters, CustomerReturn, SupplierReturn}
use Rattle.stock_nums.specs.declared.place.Side.{Side}
use Rattle.stock_nums.specs.declared.place.Side.TheVariants.{Leaves, Enters}

-- each amount within the cause is a line's amount, and each quantity a line's quantity
abbrev pub has_amounts_in_range : Cause → Bool
has_amounts_in_range (Receipt amount) = is_line_amount amount.0
has_amounts_in_range (CustomerReturn target issued) = is_line_quantity issued.0
has_amounts_in_range (SupplierReturn target amount received) = is_line_amount amount.0 && is_line_quantity received.0
has_amounts_in_range _ = true

-- the movement enters
abbrev pub is_entering : Side → Bool
is_entering Leaves = false
is_entering Enters = true

-- a movement by this cause enters: what is received, what arrives by a transfer, and what a customer gives back
abbrev pub enters_by : Cause → Bool
enters_by (Receipt amount) = true
enters_by (Issue sold) = false
enters_by TransferLeaves = false
enters_by TransferEnters = true
enters_by (CustomerReturn target issued) = true
enters_by (SupplierReturn target amount received) = false

-- a movement by this cause has this side
abbrev pub has_side : Cause → Side → Bool
has_side cause side = if enters_by cause then is_entering side else not (is_entering side)
