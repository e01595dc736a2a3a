-- A reader that was turned away has seen what it had seen.
use Rattle.std.proofs.Common.{◌≡◌}
use Rattle.left_right.specs.Sides.{view}
use Rattle.report_mirror.proofs.reader.enter.Given as goal

abbrev pub invariant-loop : goal.invariant-loop
invariant-loop g l =
    (goal.iterator-loop g).can_next l.iterator' × (goal.iterator-loop g).is_finite l.iterator'
    × (view l.reader.place ≡ view l.initial.reader.place)
