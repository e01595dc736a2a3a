-- What the rest moves, and what those so far did, is what all move. Each moves at most 10^9 units.
use Rattle.std.proofs.Common.{◌≡◌, ◌+◌, ◌*◌, ◌≤◌, drop}
use Rattle.stock_nums.specs.declared.limits.TheConstants.{MAX_QUANTITY}
use Rattle.stock_count.specs.Sides.{side_units}
use Rattle.stock_count.proofs.holding.units.Given as goal

abbrev pub invariant-loop-entry : goal.invariant-loop-entry
invariant-loop-entry l = record {
  units : l.units + side_units (drop l.entry-index l.entries) l.key l.side ≡ side_units l.entries l.key l.side;
  small : l.units ≤ l.entry-index * MAX_QUANTITY;
}
