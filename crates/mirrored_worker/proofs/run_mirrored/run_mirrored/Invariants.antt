-- The turns so far, each let by the gate, and what is shown by now.
use Rattle.std.proofs.Common.{◌≡◌}
use Rattle.stock_model.specs.History.{covered_records}
use Rattle.turn_lock.specs.Histories.{BeginsWith}
use Rattle.session_laws.specs.Makers.{without_makers}
use Rattle.repost_worker.specs.Turns.{IsWorkOf}
use Rattle.locked_worker.proofs.AfterTurns.{after_turns}
use Rattle.mirrored_worker.proofs.MirroredRuns.{IsUnderWay}
use Rattle.mirrored_worker.proofs.run_mirrored.run_mirrored.Given as goal

abbrev pub invariant-loop : goal.invariant-loop
invariant-loop g l = record {
  same_lock : l.pass.lock ≡ l.initial.pass.lock;
  work : IsWorkOf (without_makers l.pass.view.seen) l.build;
  rest : l.pass.view ≡ after_turns l.initial.pass.view l.pass.view;
  shown : BeginsWith (covered_records (without_makers l.pass.view.seen)) l.writer;
  grows : BeginsWith l.writer l.initial.writer;
  way : IsUnderWay l.initial.pass.view l.initial.build l.initial.writer l.initial.steps (g.G.Gate.told l.initial.gate) l.last l.pass.view l.build
      l.writer l.steps (g.G.Gate.told l.gate);
}
