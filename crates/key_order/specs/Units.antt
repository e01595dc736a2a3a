-- Units with a sign: how many more are held, or how many fewer.
use Rattle.std.specs.Prelude.{ℕ, zero, suc, ℤ, pos, neg_ℤ, unsigned_abs, Bool, true, false}
use Rattle.stock_nums.specs.Quantities.{IsLineQuantity}

-- so many more or fewer, from 1 to 10^9
abbrev pub IsSignedQuantity : ℤ → Type 0
IsSignedQuantity units = IsLineQuantity (unsigned_abs units)

-- so many units more, or so many fewer
abbrev pub signed_units : Bool → ℕ → ℤ
signed_units true qty = pos qty
signed_units false qty = neg_ℤ (pos qty)

-- a line's quantity is one with either sign
pub signed_units-IsSignedQuantity : (more : Bool) (qty : ℕ) → IsLineQuantity qty → IsSignedQuantity (signed_units more qty)
signed_units-IsSignedQuantity true qty h = h
signed_units-IsSignedQuantity false zero h = h
signed_units-IsSignedQuantity false (suc n) h = h
