-- The groups so far, and those of the entries to come.
use Rattle.std.proofs.Common.{◌≡◌, ◌++◌, map}
use Rattle.valuation_report.proofs.GroupLists.{entry_group}
use Rattle.valuation_report.proofs.grouping.groups.Given as goal

abbrev pub invariant-loop-key : goal.invariant-loop-key
invariant-loop-key l = l.groups ++ map entry_group l.key-iterator ≡ map entry_group l.initial.key-iterator
