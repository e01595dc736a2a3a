-- The first ones are marked.
use Rattle.std.specs.Prelude.{take}
use Rattle.repost_spread.specs.Marks.{AreMarked}
use Rattle.repost_spread.specs.Touches.{IsAtOne}
use Rattle.repost_spread.proofs.movements.Movements.mark_all.Given as goal

abbrev pub invariant-loop-entry : goal.invariant-loop-entry
invariant-loop-entry l = AreMarked l.fn.self l.self (IsAtOne (take l.entry-index l.entries))
