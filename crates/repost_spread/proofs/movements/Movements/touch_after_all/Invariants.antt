-- What comes after the first ones is marked.
use Rattle.std.specs.Prelude.{take}
use Rattle.repost_laws.specs.Touched.{is_changed}
use Rattle.repost_spread.specs.Marks.{AreMarked}
use Rattle.repost_spread.specs.Movements.{line_of}
use Rattle.repost_spread.specs.Touches.{ComesAfterOne, has_record}
use Rattle.repost_spread.proofs.movements.Movements.touch_after_all.Given as goal

abbrev pub invariant-loop-entry : goal.invariant-loop-entry
invariant-loop-entry l =
    AreMarked l.fn.self l.self (ComesAfterOne (is_changed l.n.0 (has_record l.gone)) (line_of l.fn.self) (take l.entry-index l.entries))
