-- What is made ahead is of the records that the pass has seen, and what the stop left is what there is to do after it.
use Rattle.std.proofs.Common.{◌≡◌, List, IfOk, IfErr, take, sym, subst}
use Rattle.std.specs.Prelude.{Result, OnErr}
use Rattle.stock_model.specs.PostingOrder.{posting_line}
use Rattle.stock_model.specs.declared.records.Record.{Record}
use Rattle.stock_keeper.specs.declared.fault.KeepFault.{KeepFault}
use Rattle.session_laws.specs.Makers.{without_makers}
use Rattle.repost_laws.specs.Builds.{IsClean}
use Rattle.repost_build.specs.Builds.{IsOf}
use Rattle.repost_build.specs.Readings.{suspects_in, target_of}
use Rattle.repost_worker.specs.Turns.{IsWorkOf}
use Rattle.locked_worker.specs.LockedTurns.{IsRefusedTurn}
use Rattle.locked_worker.specs.Stopped.{IsAheadOf, IsStoppedAt}
use Rattle.locked_worker.specs.declared.stop.Stopped.{Stopped}
use Rattle.locked_worker.proofs.AfterStops.{unchanged-self}
use Rattle.locked_worker.proofs.locked_turn.work_at_stop.Given
use Rattle.locked_worker.proofs.locked_turn.work_at_stop.Goals as goal

pub of-ahead-requires : goal.of-ahead-requires
of-ahead-requires g c =
    let build = c.args.build.now in
    let records = c.requires.1.1.0 in (
      subst (λ (rs : List Record). IsOf (take (target_of build) rs) build) records c.requires.1.1.1.1.1.1.0.of,
      subst (λ (rs : List Record). IsClean (posting_line (take (target_of build) rs)) (suspects_in build)) records c.requires.1.1.1.1.1.1.1,
    )

pub stop-halt-requires-clause-ahead : goal.stop-halt-requires-clause-ahead
stop-halt-requires-clause-ahead g c =
    let build = c.args.build.now in
    subst (λ (rs : List Record). IsAheadOf (take (target_of build) rs) build c.of-ahead.result) (sym c.requires.1.1.0) c.of-ahead.ensures
