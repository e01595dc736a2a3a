-- Where a movement was taken out there is none on its side.
use Rattle.layer_ranges.proofs.UnitsMoved.{HasNoneAt-removed}
use Rattle.list_tests.proofs.units.put_in.Goals as goal

pub insert-requires-clause-apart : goal.insert-requires-clause-apart
insert-requires-clause-apart c =
    HasNoneAt-removed c.reserve.new.self c.remove.new.self c.args.entry.now c.remove.ensures.entering c.remove.ensures.leaving
