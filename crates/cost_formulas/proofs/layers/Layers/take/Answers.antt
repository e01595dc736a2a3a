use Rattle.std.proofs.Common.{pos, ap, ◌∙◌, List, arith}
use Rattle.std.proofs.lemmas.Int.{ints}
use Rattle.stock_nums.specs.FirstIn.{Layer}
use Rattle.cost_formulas.specs.Held.{units_held, value_held, layers_cost, layers_after}
use Rattle.cost_formulas.specs.Lots.{Lot}
use Rattle.cost_formulas.proofs.LayersTaken.{layers_cost-left, layers_after-left, layers_after-value, layers_after-units}
use Rattle.cost_formulas.proofs.layers.Layers.take.Goals as goal

pub returns-clause-cost : goal.returns-clause-cost
returns-clause-cost c = λ entered before some is.
    c.take_from.ensures.cost
    ∙ ap (λ (layers : List (Layer Lot)). pos (layers_cost layers c.args.qty.0)) (c.self.view_is ∙ is)
    ∙ ap pos (layers_cost-left entered before c.args.qty.0 some)

pub returns-clause-left : goal.returns-clause-left
returns-clause-left c = λ entered before is.
    c.take_from.ensures.left
    ∙ ap (λ (layers : List (Layer Lot)). layers_after layers c.args.qty.0) (c.self.view_is ∙ is)
    ∙ layers_after-left entered before c.args.qty.0

pub returns-clause-worth : goal.returns-clause-worth
returns-clause-worth c =
    let left = ap value_held c.take_from.ensures.left in
    let same = ap value_held c.self.view_is in
    omega (arith, ints, layers_after-value c.self.inside.layers.items c.args.qty.0)

pub returns-clause-units : goal.returns-clause-units
returns-clause-units c =
    let left = ap units_held c.take_from.ensures.left in
    let same = ap units_held c.self.view_is in
    omega (arith, layers_after-units c.self.inside.layers.items c.args.qty.0 (omega arith))

pub invariant_of-self : goal.invariant_of-self
invariant_of-self c =
    let left = ap units_held c.take_from.ensures.left in
    let worth = ap value_held c.take_from.ensures.left in
    let same = ap units_held c.self.view_is in
    let fewer = layers_after-units c.self.inside.layers.items c.args.qty.0 (omega arith) in
    let less = layers_after-value c.self.inside.layers.items c.args.qty.0 in
    record { counted = omega arith; units_fit = omega arith; value_fits = omega arith }
