-- The peer that is handed out is the last of the list, and the others stay.
use Rattle.std.proofs.Common.{arith, subst}
use Rattle.std.specs.List.{All}
use Rattle.stock_io.specs.Listeners.{IsNewPeer}
use Rattle.stock_io.proofs.Peers.{All-front, All-last}
use Rattle.stock_io.proofs.memory_listener.MemListenerListener.accept.Goals as goal

pub invariant_of-self-in-Some : goal.invariant_of-self-in-Some
invariant_of-self-in-Some c =
    let pop = c.in-Some.ensures in
    let kept = c.self.invariant in (
      omega (arith, kept.0),
      omega (arith, kept.1, pop.len),
      All-front IsNewPeer c.pop.new.self.items c.in-Some.peer (subst (All IsNewPeer) pop.items kept.2),
    )

pub returns-in-Some-clause-fresh : goal.returns-in-Some-clause-fresh
returns-in-Some-clause-fresh c =
    All-last IsNewPeer c.pop.new.self.items c.in-Some.peer (subst (All IsNewPeer) c.in-Some.ensures.items c.self.invariant.2)
