use Rattle.std.proofs.Common.{◌≡◌, take}
use Rattle.valuation_report.specs.Holdings.{holding_of}
use Rattle.valuation_report.proofs.holdings.Holding.after.Given as goal

abbrev pub invariant-loop-row : goal.invariant-loop-row
invariant-loop-row l = l.holding ≡ holding_of (take l.row-index l.rows)
