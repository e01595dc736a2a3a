use Rattle.std.proofs.Common.{arith}
use Rattle.std.proofs.lemmas.Int.{ints}
use Rattle.cost_formulas.proofs.LayersTaken.{layers_cost-le}
use Rattle.cost_formulas.proofs.layers.take_from.Goals as goal

pub overflow_add-result : goal.overflow_add-result
overflow_add-result c = omega (arith, ints, layers_cost-le c.args.layers.now.items c.args.qty.0)

pub returns-clause-cost : goal.returns-clause-cost
returns-clause-cost c = omega (arith, ints, layers_cost-le c.args.layers.now.items c.args.qty.0)
