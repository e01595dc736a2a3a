-- The cost of the whole rows so far, and of the rest.
use Rattle.std.proofs.Common.{◌≡◌, ◌+◌, ◌*◌, ◌≤◌, drop}
use Rattle.stock_nums.specs.FirstIn.{first_cost}
use Rattle.stock_nums.specs.declared.limits.TheConstants.{MAX_VALUE}
use Rattle.stock_model.specs.Sums.{units_of, value_of}
use Rattle.generation_audit.proofs.moved.first_cost.Given as goal

abbrev pub invariant-loop-row : goal.invariant-loop-row
invariant-loop-row l = record {
  cost : l.sum + first_cost units_of value_of (drop l.row-index l.rows) l.rest ≡ first_cost units_of value_of l.rows l.units;
  small : l.sum ≤ l.row-index * MAX_VALUE;
}
