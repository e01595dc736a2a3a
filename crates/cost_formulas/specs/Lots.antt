-- What enters a warehouse together.
use Rattle.std.specs.Prelude.{ℕ, ℤ, unsigned_abs}
use Rattle.stock_nums.specs.FirstIn.{Layer}

-- units of one item, and what they are worth together, in minor units
pub record Lot : Type 0 where
  pub units : ℕ
  pub value : ℕ

abbrev pub lot_units : Lot → ℕ
lot_units lot = lot.units

abbrev pub lot_value : Lot → ℕ
lot_value lot = lot.value

-- so many units that are worth so much
abbrev pub lot : ℕ → ℤ → Lot
lot units value = record { units = units; value = unsigned_abs value }

-- a lot of which no units were taken
abbrev pub untouched : Lot → Layer Lot
untouched lot = record { entered = lot; taken = 0 }
