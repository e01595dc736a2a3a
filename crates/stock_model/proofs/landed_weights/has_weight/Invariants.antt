-- The rest of the targets has a weight where all have.
use Rattle.std.proofs.Common.{◌≡◌, drop}
use Rattle.std.specs.Prelude.{nat_lt, sum}
use Rattle.stock_model.specs.LandedCost.{weights}
use Rattle.stock_model.proofs.landed_weights.has_weight.Given as goal

abbrev pub invariant-loop-target : goal.invariant-loop-target
invariant-loop-target g l =
    nat_lt 0 (sum (weights (g.N.Names.journal l.names) l.basis (drop l.target-index l.targets))) ≡ nat_lt 0 (sum (weights (g.N.Names.journal l.names) l.basis l.targets))
