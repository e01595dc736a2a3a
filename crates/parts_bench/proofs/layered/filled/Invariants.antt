use Rattle.std.proofs.Common.{◌*◌, ◌≤◌}
use Rattle.cost_formulas.specs.Held.{units_held, value_held}
use Rattle.parts_bench.proofs.layered.filled.Given as goal

abbrev pub invariant-loop-number : goal.invariant-loop-number
invariant-loop-number l = record {
  units : units_held l.layers ≤ 150 * l.number;
  value : value_held l.layers ≤ 20_000 * l.number;
}
