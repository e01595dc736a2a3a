-- The worths so far, and those of the entries to come.
use Rattle.std.proofs.Common.{◌≡◌, ◌++◌, map}
use Rattle.kept_tables.specs.Differences.{entry_worth}
use Rattle.kept_tables.proofs.differing.worths_of.Given as goal

abbrev pub invariant-loop-spot : goal.invariant-loop-spot
invariant-loop-spot l = l.worths.items ++ map entry_worth l.spot-iterator ≡ map entry_worth l.initial.spot-iterator
