-- What the entries so far sum to.
use Rattle.valuation_report.proofs.SummedRows.{AreSumsSoFar}
use Rattle.valuation_report.proofs.balance_sums.sums_of.Given as goal

abbrev pub invariant-loop-key : goal.invariant-loop-key
invariant-loop-key l = AreSumsSoFar l.selected.heads l.initial._key-iterator l._key-iterator l.sums
