-- What the first ones charge is marked.
use Rattle.std.specs.Prelude.{take}
use Rattle.repost_spread.specs.Marks.{AreMarked}
use Rattle.repost_spread.specs.Touches.{IsChargedByOne}
use Rattle.repost_spread.proofs.movements.Movements.mark_lines.Given as goal

abbrev pub invariant-loop-charge : goal.invariant-loop-charge
invariant-loop-charge l = AreMarked l.fn.self l.self (IsChargedByOne (take l.charge-index l.charges))
