use Rattle.std.proofs.Common.{◌≡◌, length}
use Rattle.desk_wire.specs.Heads.{lists_close}
use Rattle.desk_wire.proofs.close.lists_close.Given as goal

abbrev pub invariant-loop-element : goal.invariant-loop-element
invariant-loop-element l = lists_close l.value ≡ lists_close l.rest

abbrev pub decreases-loop-element : goal.decreases-loop-element
decreases-loop-element l = length l.rest
