use Rattle.std.proofs.Common.{◌≡◌, ◌+◌, ◌≤◌, pos, ◌+ℤ◌, ◌≤ℤ◌}
use Rattle.cost_formulas.specs.Held.{units_held, value_held}
use Rattle.parts_bench.proofs.layered.emptied.Given as goal

abbrev pub invariant-loop-layers : goal.invariant-loop-layers
invariant-loop-layers l = record {
  cost : (l.cost +ℤ pos (value_held l.layers)) ≡ pos (value_held l.fn.layers);
  from_zero : pos 0 ≤ℤ l.cost;
  takes : l.takes + units_held l.layers ≤ units_held l.fn.layers;
}

abbrev pub decreases-loop-layers : goal.decreases-loop-layers
decreases-loop-layers l = units_held l.layers
