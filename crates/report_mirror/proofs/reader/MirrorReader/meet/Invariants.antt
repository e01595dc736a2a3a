-- What was read begins with what had been read.
use Rattle.left_right.specs.Sides.{view}
use Rattle.turn_lock.specs.Histories.{BeginsWith}
use Rattle.report_mirror.proofs.reader.MirrorReader.meet.Given as goal

abbrev pub invariant-loop : goal.invariant-loop
invariant-loop g l =
    (goal.iterator-loop g).can_next l.iterator' × (goal.iterator-loop g).is_finite l.iterator'
    × BeginsWith (view l.reader.place).records (view l.initial.reader.place).records
