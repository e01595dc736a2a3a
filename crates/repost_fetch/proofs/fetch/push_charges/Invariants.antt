-- What is still to be added.
use Rattle.std.proofs.Common.{◌≡◌, ◌++◌, drop}
use Rattle.repost_fetch.proofs.fetch.push_charges.Given as goal

abbrev pub invariant-loop-charge : goal.invariant-loop-charge
invariant-loop-charge l = l.charges ++ drop l.charge-index l.new ≡ l.initial.charges ++ l.new
