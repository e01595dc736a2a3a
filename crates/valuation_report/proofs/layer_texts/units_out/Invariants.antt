-- The units that left so far.
use Rattle.std.proofs.Common.{◌≡◌, take}
use Rattle.valuation_report.specs.Holdings.{units_out}
use Rattle.valuation_report.proofs.layer_texts.units_out.Given as goal

abbrev pub invariant-loop-row : goal.invariant-loop-row
invariant-loop-row l = l.units ≡ units_out (take l.row-index l.rows)
