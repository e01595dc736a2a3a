-- The shares so far were added.
use Rattle.std.proofs.Common.{◌≡◌, ◌++◌, take, map}
use Rattle.std.specs.List.{zip}
use Rattle.cost_links.specs.Charged.{amount, charge_pairs}
use Rattle.generation_audit.proofs.charges.push_shares.Given as goal

abbrev pub invariant-loop-index : goal.invariant-loop-index
invariant-loop-index l = charge_pairs l.charges ≡ charge_pairs l.fn.charges ++ zip (take l.index l.targets) (map amount (take l.index l.parts))
