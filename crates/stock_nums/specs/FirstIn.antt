-- First in, first out (IAS 2.27): what entered first leaves first. Each element of a list that entered has its units and
-- what they are worth together.
use Rattle.std.specs.Prelude.{ℕ, ◌+◌, ◌-◌, List, [], ◌∷◌, nat_le, if◌then◌else◌}
use Rattle.stock_nums.specs.Part.{part}

-- what the first x units cost: whole elements in order, and a part of the next
abbrev pub first_cost : {X : Type 0} → (X → ℕ) → (X → ℕ) → List X → ℕ → ℕ
first_cost units value [] x = 0
first_cost units value (e ∷ es) x =
    if nat_le (units e) x then value e + first_cost units value es (x - units e) else part (value e) 0 x (units e)

-- what the next q units cost after so many were taken
abbrev pub next_cost : {X : Type 0} → (X → ℕ) → (X → ℕ) → List X → ℕ → ℕ → ℕ
next_cost units value es taken q = first_cost units value es (taken + q) - first_cost units value es taken

-- a layer: what entered together and has units left, and how many of its units were taken
pub record Layer (X : Type 0) : Type 0 where
  pub entered : X
  pub taken : ℕ

-- the layers that are left after so many units were taken
abbrev pub layers_left : {X : Type 0} → (X → ℕ) → List X → ℕ → List (Layer X)
layers_left units [] taken = []
layers_left units (e ∷ es) taken =
    if nat_le (units e) taken
    then layers_left units es (taken - units e)
    else record { entered = e; taken = taken } ∷ layers_left units es 0

-- the units that a layer has left
abbrev pub layer_units : {X : Type 0} → (X → ℕ) → Layer X → ℕ
layer_units units layer = units layer.entered - layer.taken

-- what the units that a layer has left are worth
abbrev pub layer_value : {X : Type 0} → (X → ℕ) → (X → ℕ) → Layer X → ℕ
layer_value units value layer = part (value layer.entered) layer.taken (layer_units units layer) (units layer.entered)
