-- What a worker and desks do in threads of their own.
use Rattle.std.specs.Prelude.{ℕ, List}
use Rattle.turn_lock.specs.Passes.{PassView}
use Rattle.stock_model.specs.declared.deeds.Deed.{Deed}
use Rattle.stock_model.specs.declared.records.Record.{Record}
use Rattle.repost_build.specs.declared.build.Build.{Build}
use Rattle.shared_listener.specs.declared.step.Step.{Step}
use Rattle.desk_service.specs.Desks.{Work}
use Rattle.desk_service.specs.Serving.{Serving}
use Rattle.desk_service.specs.Working.{IsWorked}

-- the worker made turns, and desks numbered on from 1 served the peers that came
pub record IsTeamwork {L P : Type 0} (attends : ℕ → Work L P → Type 0)
    (pass : PassView Deed) (build : Build) (shown : List Record) (pass' : PassView Deed) (build' : Build) (shown' : List Record)
    (passes passes' : List (PassView Deed)) (reads reads' : List (List Record)) (ways ways' : List (PassView (Step L P))) : Type 0 where
  pub worked : IsWorked pass build shown pass' build' shown'
  pub serving : Serving attends 1 passes passes' reads reads' ways ways'
