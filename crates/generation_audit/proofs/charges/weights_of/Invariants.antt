-- The weights of the lines so far.
use Rattle.std.proofs.Common.{◌≡◌, take}
use Rattle.stock_model.specs.LandedCost.{weights}
use Rattle.generation_audit.proofs.charges.weights_of.Given as goal

abbrev pub invariant-loop-target : goal.invariant-loop-target
invariant-loop-target l = l.found ≡ weights l.records l.basis (take l.target-index l.targets)
