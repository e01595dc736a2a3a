-- What is taken from the layers, and what is left of them.
use Rattle.std.proofs.Common.{◌≡◌, ℕ, ◌+◌, ◌-◌, ◌<◌, ◌≤◌, Bool, if◌then◌else◌, List, [], ◌∷◌, ◌++◌, sum_by, inl, inr, refl, sym, ap, ◌∙◌, arith}
use Rattle.std.specs.List.{All}
use Rattle.std.proofs.lemmas.Bool.{le-leb, lt-leb, cases_lt}
use Rattle.std.proofs.lemmas.List.Elements.{All-tail}
use Rattle.std.proofs.lemmas.List.Sums.{sum_by-cons, sum_by_push}
use Rattle.stock_nums.specs.FirstIn.{first_cost, next_cost, Layer, layers_left, layer_units, layer_value}
use Rattle.stock_nums.specs.Part.{part}
use Rattle.stock_nums.proofs.PartLemmas.{part-all, part-last, part-split}
use Rattle.stock_nums.proofs.FirstIn.{first_cost-whole, first_cost-within, first_cost-none, layers_left-cut, layers_left-gone, layers_left-snoc}
use Rattle.cost_formulas.specs.Held.{units_held, value_held, layers_cost, layers_after}
use Rattle.cost_formulas.specs.Lots.{Lot, lot_units, lot_value, untouched}

-- what is left of a layer after some of its units
abbrev pub cut : Layer Lot → ℕ → Layer Lot
cut layer q = record { entered = layer.entered; taken = layer.taken + q }

-- a layer with no more units left than are taken costs all that it's worth
pub layers_cost-whole : (layer : Layer Lot) (layers : List (Layer Lot)) (q : ℕ) → layer_units lot_units layer ≤ q
    → layers_cost (layer ∷ layers) q ≡ layer_value lot_units lot_value layer + layers_cost layers (q - layer_units lot_units layer)
layers_cost-whole layer layers q whole =
    ap (λ (b : Bool). if b then layer_value lot_units lot_value layer + layers_cost layers (q - layer_units lot_units layer) else part layer.entered.value layer.taken q layer.entered.units) (le-leb _ q whole)

-- fewer units cost their part
pub layers_cost-within : (layer : Layer Lot) (layers : List (Layer Lot)) (q : ℕ) → q < layer_units lot_units layer
    → layers_cost (layer ∷ layers) q ≡ part layer.entered.value layer.taken q layer.entered.units
layers_cost-within layer layers q within =
    ap (λ (b : Bool). if b then layer_value lot_units lot_value layer + layers_cost layers (q - layer_units lot_units layer) else part layer.entered.value layer.taken q layer.entered.units) (lt-leb _ q within)

-- such a layer is gone
pub layers_after-whole : (layer : Layer Lot) (layers : List (Layer Lot)) (q : ℕ) → layer_units lot_units layer ≤ q
    → layers_after (layer ∷ layers) q ≡ layers_after layers (q - layer_units lot_units layer)
layers_after-whole layer layers q whole =
    ap (λ (b : Bool). if b then layers_after layers (q - layer_units lot_units layer) else cut layer q ∷ layers) (le-leb _ q whole)

-- and fewer units leave some of it
pub layers_after-within : (layer : Layer Lot) (layers : List (Layer Lot)) (q : ℕ) → q < layer_units lot_units layer
    → layers_after (layer ∷ layers) q ≡ cut layer q ∷ layers
layers_after-within layer layers q within =
    ap (λ (b : Bool). if b then layers_after layers (q - layer_units lot_units layer) else cut layer q ∷ layers) (lt-leb _ q within)

-- what is left of the layers left after some units is what is left after these units too
pub layers_after-left : (es : List Lot) (before q : ℕ) → layers_after (layers_left lot_units es before) q ≡ layers_left lot_units es (before + q)
layers_after-left [] before q = refl
layers_after-left (e ∷ es) before q =
    elim (cases_lt before (lot_units e)) [
      | inr gone ↦
          let same : before - lot_units e + q ≡ before + q - lot_units e = omega arith in
          ap (λ (layers : List (Layer Lot)). layers_after layers q) (layers_left-gone lot_units e es before gone)
          ∙ layers_after-left es (before - lot_units e) q
          ∙ ap (layers_left lot_units es) same
          ∙ sym (layers_left-gone lot_units e es (before + q) (omega arith))
      | inl some ↦
          let first = ap (λ (layers : List (Layer Lot)). layers_after layers q) (layers_left-cut lot_units e es before some) in
          elim (cases_lt q (lot_units e - before)) [
            | inl within ↦
                first
                ∙ layers_after-within (record { entered = e; taken = before }) (layers_left lot_units es 0) q within
                ∙ sym (layers_left-cut lot_units e es (before + q) (omega arith))
            | inr whole ↦
                let same : 0 + (q - (lot_units e - before)) ≡ before + q - lot_units e = omega arith in
                first
                ∙ layers_after-whole (record { entered = e; taken = before }) (layers_left lot_units es 0) q whole
                ∙ layers_after-left es 0 (q - (lot_units e - before))
                ∙ ap (layers_left lot_units es) same
                ∙ sym (layers_left-gone lot_units e es (before + q) (omega arith))
          ]
    ]

-- what the next units of the layers left cost is what they cost of all that entered
pub layers_cost-left : (es : List Lot) (before q : ℕ) → All (λ e. 0 < lot_units e) es → layers_cost (layers_left lot_units es before) q ≡ next_cost lot_units lot_value es before q
layers_cost-left [] before q some = refl
layers_cost-left (e ∷ es) before q some =
    let some_later = All-tail (λ e. 0 < lot_units e) e es some in
    elim (cases_lt before (lot_units e)) [
      | inr gone ↦
          let same : before - lot_units e + q ≡ before + q - lot_units e = omega arith in
          let later : layers_cost (layers_left lot_units (e ∷ es) before) q ≡ first_cost lot_units lot_value es (before + q - lot_units e) - first_cost lot_units lot_value es (before - lot_units e) =
          ap (λ (layers : List (Layer Lot)). layers_cost layers q) (layers_left-gone lot_units e es before gone)
          ∙ layers_cost-left es (before - lot_units e) q some_later
          ∙ ap (λ (x : ℕ). first_cost lot_units lot_value es x - first_cost lot_units lot_value es (before - lot_units e)) same in
          omega (arith, first_cost-whole lot_units lot_value e es before gone, first_cost-whole lot_units lot_value e es (before + q) (omega arith))
      | inl cut_there ↦
          let first = ap (λ (layers : List (Layer Lot)). layers_cost layers q) (layers_left-cut lot_units e es before cut_there) in
          let till_before = first_cost-within lot_units lot_value e es before cut_there in
          elim (cases_lt q (lot_units e - before)) [
            | inl within ↦
                let cost = layers_cost-within (record { entered = e; taken = before }) (layers_left lot_units es 0) q within in
                let till_now = first_cost-within lot_units lot_value e es (before + q) (omega arith) in
                omega arith
            | inr whole ↦
                let cost = layers_cost-whole (record { entered = e; taken = before }) (layers_left lot_units es 0) q whole in
                let same : 0 + (q - (lot_units e - before)) ≡ before + q - lot_units e = omega arith in
                let later = layers_cost-left es 0 (q - (lot_units e - before)) some_later ∙ ap (λ (x : ℕ). first_cost lot_units lot_value es x - first_cost lot_units lot_value es 0) same in
                let none = first_cost-none lot_units lot_value es some_later in
                let till_now = first_cost-whole lot_units lot_value e es (before + q) (omega arith) in
                let rest = part-last (lot_value e) before (lot_units e - before) (lot_units e) (omega arith) (omega arith) in
                omega arith
          ]
    ]

-- what is taken costs what the layers are worth less afterwards
pub layers_after-value : (layers : List (Layer Lot)) (q : ℕ) → value_held (layers_after layers q) + layers_cost layers q ≡ value_held layers
layers_after-value [] q = refl
layers_after-value (layer ∷ layers) q =
    let before = sum_by-cons (layer_value lot_units lot_value) layer layers in
    elim (cases_lt q (layer_units lot_units layer)) [
      | inl within ↦
          let after = ap value_held (layers_after-within layer layers q within) ∙ sum_by-cons (layer_value lot_units lot_value) (cut layer q) layers in
          let cost = layers_cost-within layer layers q within in
          let same : q + layer_units lot_units (cut layer q) ≡ layer_units lot_units layer = omega arith in
          let both = part-split layer.entered.value layer.taken q (layer_units lot_units (cut layer q)) layer.entered.units (omega arith) ∙ ap (λ (x : ℕ). part layer.entered.value layer.taken x layer.entered.units) same in
          add_up _ _ _ _ _ _ _ after cost both before
      | inr whole ↦
          let after = ap value_held (layers_after-whole layer layers q whole) in
          let cost = layers_cost-whole layer layers q whole in
          let rest = layers_after-value layers (q - layer_units lot_units layer) in
          omega arith
    ]
  where
    add_up : (after cost part_taken part_left part_whole rest before : ℕ) → after ≡ part_left + rest → cost ≡ part_taken → part_taken + part_left ≡ part_whole → before ≡ part_whole + rest → after + cost ≡ before
    add_up after cost part_taken part_left part_whole rest before is_after is_cost both is_before = omega arith

-- no units cost more than the layers are worth
pub layers_cost-le : (layers : List (Layer Lot)) (q : ℕ) → layers_cost layers q ≤ value_held layers
layers_cost-le layers q = omega (arith, layers_after-value layers q)

-- and has as many units as are held less
pub layers_after-units : (layers : List (Layer Lot)) (q : ℕ) → q ≤ units_held layers → units_held (layers_after layers q) + q ≡ units_held layers
layers_after-units [] q enough = omega arith
layers_after-units (layer ∷ layers) q enough =
    let before = sum_by-cons (layer_units lot_units) layer layers in
    elim (cases_lt q (layer_units lot_units layer)) [
      | inl within ↦
          let after = ap units_held (layers_after-within layer layers q within) ∙ sum_by-cons (layer_units lot_units) (cut layer q) layers in
          omega arith
      | inr whole ↦
          let after = ap units_held (layers_after-whole layer layers q whole) in
          let rest = layers_after-units layers (q - layer_units lot_units layer) (omega arith) in
          omega arith
    ]

-- what enters after all others comes after the layers that were left
pub layers_left-push : (old new : List (Layer Lot)) (entered : List Lot) (before : ℕ) (e : Lot) → old ≡ layers_left lot_units entered before → before ≤ sum_by lot_units entered → 0 < lot_units e
    → new ≡ old ++ untouched e ∷ [] → new ≡ layers_left lot_units (entered ++ e ∷ []) before
layers_left-push old new entered before e is enough some added =
    added ∙ ap (λ (layers : List (Layer Lot)). layers ++ untouched e ∷ []) is ∙ sym (layers_left-snoc lot_units entered e before enough some)

-- what enters is worth what it's worth
pub value_held-push : (layers : List (Layer Lot)) (e : Lot) → 0 < lot_units e → value_held (layers ++ untouched e ∷ []) ≡ value_held layers + lot_value e
value_held-push layers e some =
    let none : lot_units e - 0 ≡ lot_units e = omega arith in
    let whole : layer_value lot_units lot_value (untouched e) ≡ lot_value e = ap (λ (x : ℕ). part (lot_value e) 0 x (lot_units e)) none ∙ part-all (lot_value e) (lot_units e) some in
    sum_by_push (layer_value lot_units lot_value) layers (untouched e) ∙ ap (λ (x : ℕ). value_held layers + x) whole
