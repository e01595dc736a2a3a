use Rattle.std.proofs.Common.{rules, ◌∙◌, arith}
use Rattle.cost_formulas.specs.Lots.{lot}
use Rattle.cost_formulas.proofs.LayersTaken.{layers_left-push, value_held-push}
use Rattle.cost_formulas.proofs.layers.Layers.push.Goals as goal

pub returns-clause-last_in : goal.returns-clause-last_in
returns-clause-last_in c = λ entered before is enough.
    layers_left-push _ _ entered before _ (c.self.view_is ∙ is) enough c.requires.some (search rules)

pub returns-clause-worth : goal.returns-clause-worth
returns-clause-worth c = grind (arith, value_held-push c.args.self.now (lot c.args.qty.0 c.args.value.0) c.requires.some)
