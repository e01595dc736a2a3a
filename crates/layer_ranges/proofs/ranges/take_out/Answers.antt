-- The other changes stay.
use Rattle.std.proofs.Common.{sym, subst}
use Rattle.layer_ranges.specs.Layers.{AreLeaving}
use Rattle.layer_ranges.proofs.UnitsMoved.{AreLeaving-without_change}
use Rattle.layer_ranges.proofs.ranges.take_out.Goals as goal

pub returns-clause-leaving : goal.returns-clause-leaving
returns-clause-leaving c =
    subst AreLeaving (sym c.remove.ensures.rest)
    (AreLeaving-without_change c.args.units.now.changes _ c.args.entry.now.place c.requires.leaving)
