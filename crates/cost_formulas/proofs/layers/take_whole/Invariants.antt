use Rattle.std.proofs.Common.{◌≡◌, length, pos, ◌+ℤ◌, ◌≤ℤ◌}
use Rattle.cost_formulas.specs.Held.{value_held, layers_cost, layers_after}
use Rattle.cost_formulas.proofs.layers.take_whole.Given as goal

abbrev pub invariant-loop-layer : goal.invariant-loop-layer
invariant-loop-layer l = record {
  cost : (l.cost +ℤ pos (layers_cost l.layers.items l.wanted)) ≡ pos (layers_cost l.fn.layers.items l.fn.qty.0);
  left : layers_after l.layers.items l.wanted ≡ layers_after l.fn.layers.items l.fn.qty.0;
  worth : (l.cost +ℤ pos (value_held l.layers.items)) ≡ pos (value_held l.fn.layers.items);
  from_zero : pos 0 ≤ℤ l.cost;
}

abbrev pub decreases-loop-layer : goal.decreases-loop-layer
decreases-loop-layer l = length l.layers.items
