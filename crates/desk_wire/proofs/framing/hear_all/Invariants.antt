use Rattle.std.proofs.Common.{◌+◌, length}
use Rattle.desk_wire.proofs.FramingLemmas.{HasFramed}
use Rattle.desk_wire.proofs.framing.hear_all.Given as goal

abbrev pub invariant-loop-requests : goal.invariant-loop-requests
invariant-loop-requests g l =
    HasFramed g.S.Source.left g.S.Source.taken g.S.Source.faults g.S.Source.read_leaves l.initial.inbox l.inbox l.initial.source l.source l.requests

abbrev pub decreases-loop-requests : goal.decreases-loop-requests
decreases-loop-requests g l = length l.inbox.bytes + l.inbox.spare
