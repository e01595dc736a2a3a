-- Nothing was charged to the lines so far.
use Rattle.std.proofs.Common.{◌≡◌, ◌++◌, take, map}
use Rattle.cost_links.specs.Charged.{charge_pairs, with_nothing}
use Rattle.generation_audit.proofs.charges.push_nothing.Given as goal

abbrev pub invariant-loop-target : goal.invariant-loop-target
invariant-loop-target l = charge_pairs l.charges ≡ charge_pairs l.fn.charges ++ map with_nothing (take l.target-index l.targets)
