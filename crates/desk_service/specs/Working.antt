-- What a worker does with pass 0, its build and the mirror.
use Rattle.std.specs.Prelude.{◌≡◌, List, Result}
use Rattle.stock_model.specs.History.{covered_records}
use Rattle.stock_model.specs.declared.deeds.Deed.{Deed}
use Rattle.stock_model.specs.declared.records.Record.{Record}
use Rattle.stock_keeper.specs.declared.fault.KeepFault.{KeepFault}
use Rattle.turn_lock.specs.Histories.{BeginsWith}
use Rattle.turn_lock.specs.Passes.{PassView}
use Rattle.session_laws.specs.Makers.{without_makers}
use Rattle.repost_build.specs.declared.build.Build.{Build}
use Rattle.mirrored_worker.specs.MirroredRuns.{AreTurnsShown}
use Rattle.repost_worker.specs.Turns.{IsWorkOf}
use Rattle.repost_worker.specs.declared.turn.Turned.{Turned}
use Rattle.desk_server.specs.Exchanging.{LeavesRest}

-- turns of a worker lead from this pass, build and records that are shown to those, and what is shown was published
pub record IsWorked (pass : PassView Deed) (build : Build) (shown : List Record) (pass' : PassView Deed) (build' : Build)
    (shown' : List Record) : Type 0 where
  pub same_lock : pass'.lock ≡ pass.lock
  pub rest : LeavesRest pass.view pass'.view
  pub work : IsWorkOf (without_makers pass'.view.seen) build'
  pub results : List (Result Turned KeepFault)
  pub turns : AreTurnsShown results pass.view build shown pass'.view build' shown'
  pub published : BeginsWith (covered_records (without_makers pass'.view.seen)) shown'
