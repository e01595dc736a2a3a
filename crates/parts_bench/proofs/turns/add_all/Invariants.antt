use Rattle.std.proofs.Common.{◌≡◌, length}
use Rattle.parts_bench.proofs.turns.add_all.Given as goal

abbrev pub invariant-loop-event : goal.invariant-loop-event
invariant-loop-event g l = record { same_lock : l.pass.lock ≡ l.fn.pass.lock; numbered : l.pass.view.number ≡ l.maker; split : l.pass.view.split ≡ l.fn.pass.view.split; joined : l.pass.view.joined ≡ l.fn.pass.view.joined; counted : length l.pass.view.stops ≡ l.event }
