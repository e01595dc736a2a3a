-- What is held before a place of units that left is how many left, fewer.
use Rattle.std.proofs.Common.{arith}
use Rattle.std.proofs.lemmas.Int.{ints}
use Rattle.layer_ranges.proofs.UnitsMoved.{held_before-leaving}
use Rattle.layer_ranges.proofs.ranges.count_before.Goals as goal

pub returns : goal.returns
returns c =
    let held = held_before-leaving c.args.units.now.changes c.args.key c.args.place.now c.requires in
    omega (arith, ints, held, c.held_before.ensures.value, c.unsigned_abs.ensures.value)
