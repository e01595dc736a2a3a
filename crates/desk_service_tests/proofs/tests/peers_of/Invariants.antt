-- Each peer that was made is new.
use Rattle.std.specs.Prelude.{All}
use Rattle.stock_io.specs.Listeners.{IsNewPeer}
use Rattle.desk_service_tests.proofs.tests.peers_of.Given as goal

abbrev pub invariant-loop-request : goal.invariant-loop-request
invariant-loop-request l = All IsNewPeer l.peers.items
