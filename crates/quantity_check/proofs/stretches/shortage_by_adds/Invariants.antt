-- The earliest shortage of the other stretches, and of what was found so far, is that of all.
use Rattle.std.proofs.Common.{◌≡◌, None, drop}
use Rattle.quantity_check.specs.Stretches.{shortage_in_stretch, earliest}
use Rattle.quantity_check.proofs.stretches.shortage_by_adds.Given as goal

abbrev pub invariant-loop-entry : goal.invariant-loop-entry
invariant-loop-entry l =
    earliest l.first (shortage_in_stretch l.line.entries l.adds l.gone) (drop l.entry-index l.adds) ≡ earliest None (shortage_in_stretch l.line.entries l.adds l.gone) l.adds
