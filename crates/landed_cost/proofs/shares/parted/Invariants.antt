-- What is found and the shares of the later weights are all shares.
use Rattle.std.proofs.Common.{◌≡◌, ◌+◌, ◌++◌, drop, sum, unsigned_abs}
use Rattle.stock_nums.specs.Shares.{shares, shares_after}
use Rattle.landed_cost.specs.Charges.{minors}
use Rattle.landed_cost.proofs.shares.parted.Given as goal

abbrev pub invariant-loop-weight : goal.invariant-loop-weight
invariant-loop-weight l = record {
  found : l.parted ++ minors (shares_after (unsigned_abs l.charge.0) l.before l.all.0 (drop l.weight-index l.weights)) ≡ minors (shares (unsigned_abs l.charge.0) l.weights);
  weighed : l.before + sum (drop l.weight-index l.weights) ≡ l.all.0;
}
