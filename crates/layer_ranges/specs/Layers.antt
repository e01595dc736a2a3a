-- The units of one item in one warehouse by their numbers, from 0 in posting order. Each change of a list here counts the units
-- of one movement.
use Rattle.std.specs.Prelude.{ℕ, ◌+◌, ◌^◌, ◌<◌, ◌≤◌, pos, ◌<ℤ◌, unsigned_abs, List, [], ◌∷◌, length, filter, sum_by, nat_lt, if◌then◌else◌, Option, Some, None, All}
use Rattle.stock_nums.specs.Places.{is_before}
use Rattle.stock_nums.specs.declared.entry.Key.{Key}
use Rattle.stock_nums.specs.declared.place.Place.{Place}
use Rattle.key_order.specs.Changes.{of_key}
use Rattle.key_order.specs.KeyOrders.{AreInKeyOrder}
use Rattle.key_order.specs.declared.change.Change.{Change}
use Rattle.layer_ranges.specs.declared.layer.Layer.{Layer}

-- how many units the movement of a change moved
abbrev pub moved_units : Change → ℕ
moved_units c = unsigned_abs c.units

-- the units of a change, where so many came before them
abbrev pub layer_of : ℕ → Change → Layer
layer_of begin c = record { place = c.place; begin = record { 0 = begin }; qty = record { 0 = moved_units c } }

-- of changes before which so many units came, the units among which the one of this number is
abbrev pub layer_from : List Change → ℕ → ℕ → Option Layer
layer_from [] begin unit = None
layer_from (c ∷ cs) begin unit =
    if nat_lt unit (begin + moved_units c) then Some (layer_of begin c) else layer_from cs (begin + moved_units c) unit

-- the units among which the one of this number is, of an item in a warehouse
abbrev pub layer_at : List Change → Key → ℕ → Option Layer
layer_at cs key unit = layer_from (of_key key cs) 0 unit

-- how many units there are of an item in a warehouse
abbrev pub units_of_key : List Change → Key → ℕ
units_of_key cs key = sum_by moved_units (of_key key cs)

-- how many units of an item in a warehouse came before a place
abbrev pub units_before : List Change → Key → Place → ℕ
units_before cs key place = sum_by moved_units (filter (λ c. is_before c.place place) (of_key key cs))

-- the unit of this number is among these
pub record HoldsUnit (unit : ℕ) (layer : Layer) : Type 0 where
  pub begun : layer.begin.0 ≤ unit
  pub ends_later : unit < layer.begin.0 + layer.qty.0

-- changes by item and warehouse, and then in posting order, each of which counts its units as leaving
pub record AreLeaving (cs : List Change) : Type 0 where
  pub in_order : AreInKeyOrder cs
  pub few : length cs ≤ 2 ^ 20
  pub fewer : All (λ c. c.units <ℤ pos 0) cs
