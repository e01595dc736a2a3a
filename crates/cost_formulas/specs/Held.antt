-- What is held in layers, and what leaves them first in, first out (IAS 2.27).
use Rattle.std.specs.Prelude.{ℕ, ◌≡◌, ◌+◌, ◌-◌, ◌<◌, ◌≤◌, List, [], ◌∷◌, nat_le, if◌then◌else◌, sum_by}
use Rattle.stock_nums.specs.FirstIn.{Layer, layer_units, layer_value}
use Rattle.stock_nums.specs.Part.{part}
use Rattle.cost_formulas.specs.Lots.{Lot, lot_units, lot_value}

-- the units that the layers have left together
abbrev pub units_held : List (Layer Lot) → ℕ
units_held layers = sum_by (layer_units lot_units) layers

-- what the units that the layers have left are worth together
abbrev pub value_held : List (Layer Lot) → ℕ
value_held layers = sum_by (layer_value lot_units lot_value) layers

-- what the next q units cost: whole layers in order, and a part of the next
abbrev pub layers_cost : List (Layer Lot) → ℕ → ℕ
layers_cost [] q = 0
layers_cost (layer ∷ layers) q =
    if nat_le (layer_units lot_units layer) q
    then layer_value lot_units lot_value layer + layers_cost layers (q - layer_units lot_units layer)
    else part layer.entered.value layer.taken q layer.entered.units

-- the layers that the next q units leave
abbrev pub layers_after : List (Layer Lot) → ℕ → List (Layer Lot)
layers_after [] q = []
layers_after (layer ∷ layers) q =
    if nat_le (layer_units lot_units layer) q
    then layers_after layers (q - layer_units lot_units layer)
    else record { entered = layer.entered; taken = layer.taken + q } ∷ layers

-- the first layer, if there is one, has more than so many units left
abbrev pub IsWithinFirst : List (Layer Lot) → ℕ → Type 0
IsWithinFirst [] q = Unit {0}
IsWithinFirst (layer ∷ layers) q = q < layer_units lot_units layer

-- so many units are held in the layers, and no more than have room in the ledger
pub record IsHeld (layers : List (Layer Lot)) (held : ℕ) : Type 0 where
  pub counted : held ≡ units_held layers
  pub units_fit : units_held layers ≤ 1_000_000_000_000_000_000
  pub value_fits : value_held layers ≤ 300_000_000_000_000_000
