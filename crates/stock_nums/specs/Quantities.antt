-- The ranges of a line's numbers.
use Rattle.std.specs.Prelude.{ℕ, ◌<◌, ◌≤◌, Bool, ◌&&◌, ℤ, pos, int_le, nat_lt, nat_le}
use Rattle.stock_nums.specs.declared.limits.TheConstants.{MAX_QUANTITY, MAX_AMOUNT}

-- the quantity of a line: from 1 to 10^9 smallest units
abbrev pub IsLineQuantity : ℕ → Type 0
IsLineQuantity qty = (0 < qty) × (qty ≤ MAX_QUANTITY)

-- the test of it
abbrev pub is_line_quantity : ℕ → Bool
is_line_quantity qty = nat_lt 0 qty && nat_le qty MAX_QUANTITY

-- the amount of a line: from 0 to 10^12 minor units
abbrev pub is_line_amount : ℤ → Bool
is_line_amount amount = int_le (pos 0) amount && int_le amount (pos MAX_AMOUNT)
