-- The nearest place of the rest, and of the place so far, is that of all.
use Rattle.std.proofs.Common.{◌≡◌, drop}
use Rattle.quantity_check.specs.Stretches.{nearest_after}
use Rattle.quantity_check.proofs.changes.nearest_after.Given as goal

abbrev pub invariant-loop-entry : goal.invariant-loop-entry
invariant-loop-entry l = nearest_after l.nearest (drop l.entry-index l.entries) l.key l.place ≡ nearest_after l.fn.end l.entries l.key l.place
