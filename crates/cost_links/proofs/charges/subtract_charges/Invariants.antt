-- What is left and what was taken off so far are all.
use Rattle.std.proofs.Common.{◌≡◌, ◌+◌, drop}
use Rattle.stock_nums.specs.LineSums.{number_of}
use Rattle.stock_nums.specs.declared.cause.Target.{Target}
use Rattle.cost_links.specs.Charged.{charge_pairs, charged_to}
use Rattle.cost_links.proofs.charges.subtract_charges.Given as goal

abbrev pub invariant-loop-charge : goal.invariant-loop-charge
invariant-loop-charge l =
    (line : Target) → number_of l.sums line + charged_to line (charge_pairs l.charges) ≡ number_of l.fn.sums line + charged_to line (charge_pairs (drop l.charge-index l.charges))
