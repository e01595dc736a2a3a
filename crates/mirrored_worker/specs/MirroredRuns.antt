-- A worker's run over a book that threads share, beside a mirror: what is published is shown.
use Rattle.std.specs.Prelude.{ℕ, ◌≡◌, ◌⊎◌, ◌+◌, ◌^◌, ◌<◌, ◌≤◌, List, [], ◌∷◌, ◌++◌, length, sum_by, Option, Result, Ok, Err}
use Rattle.stock_model.specs.History.{covered_records}
use Rattle.stock_model.specs.declared.deeds.Deed.{Deed}
use Rattle.stock_model.specs.declared.records.Record.{Record}
use Rattle.stock_keeper.specs.declared.fault.KeepFault.{KeepFault}
use Rattle.turn_lock.specs.declared.view.View.{View}
use Rattle.session_laws.specs.Makers.{without_makers}
use Rattle.repost_build.specs.declared.build.Build.{Build}
use Rattle.repost_worker.specs.declared.turn.Turned.{Turned}
use Rattle.repost_worker.specs.declared.turn.Turned.TheVariants.{Valued, Fetched, Published, Idle}
use Rattle.locked_worker.specs.GatedRuns.{IsTurnWith, valuations_with, Answers, goes_on, Answered}
use Rattle.locked_worker.specs.declared.gate.Go.TheVariants.{Stop}
use Rattle.mirrored_worker.specs.Looks.{IsLook}

-- a pass looked once, and the mirror shows the records that the book covers then; or for want of memory those that it showed before
pub record IsShowing (old : View Deed) (shown : List Record) (new : View Deed) (shown' : List Record) : Type 0 where
  pub look : IsLook old new
  pub shows : (shown' ≡ covered_records (without_makers new.seen)) ⊎ (shown' ≡ shown)

-- no look, and the mirror shows what it did
abbrev pub StaysShown : View Deed → List Record → View Deed → List Record → Type 0
StaysShown old shown new shown' = (new ≡ old) × (shown' ≡ shown)

-- what came after a turn with this result: a look where it published, unless the pass had had all its turns, and else nothing
abbrev pub IsShownAfter : Result Turned KeepFault → View Deed → List Record → View Deed → List Record → Type 0
IsShownAfter (Ok (Valued place)) old shown new shown' = StaysShown old shown new shown'
IsShownAfter (Ok (Fetched n)) old shown new shown' = StaysShown old shown new shown'
IsShownAfter (Ok (Published n)) old shown new shown' =
    ((length old.stops < 2 ^ 57) × IsShowing old shown new shown') ⊎ ((2 ^ 57 ≤ length old.stops) × StaysShown old shown new shown')
IsShownAfter (Ok Idle) old shown new shown' = StaysShown old shown new shown'
IsShownAfter (Err fault) old shown new shown' = StaysShown old shown new shown'

-- one turn under the lock, which came to this or was refused so, and what was shown after it
pub record IsTurnShown (result : Result Turned KeepFault) (old : View Deed) (build : Build) (shown : List Record) (new : View Deed) (build' : Build)
    (shown' : List Record) : Type 0 where
  pub mid : View Deed
  pub turn : IsTurnWith old build result mid build'
  pub shows : IsShownAfter result mid shown new shown'

-- Turns with these results lead, one after another, from the first view, build and records that are shown to the second ones. Each is of
-- a pass that may take one.
abbrev pub AreTurnsShown : List (Result Turned KeepFault) → View Deed → Build → List Record → View Deed → Build → List Record → Type 0
AreTurnsShown [] old build shown new build' shown' = (new ≡ old) × (build' ≡ build) × (shown' ≡ shown)
AreTurnsShown (result ∷ results) old build shown new build' shown' =
    (length old.stops < 2 ^ 57)
    × ((mid : View Deed) × (then : Build) × (now : List Record) × IsTurnShown result old build shown mid then now
    × AreTurnsShown results mid then now new build' shown')

-- Turns were made until the gate said to stop or the pass had taken all turns that it may, looks among them. Before each the gate was
-- asked, and was given the result of the turn before: at first that there was nothing to do. It is not told of looks.
pub record IsMirroredRun (old : View Deed) (build : Build) (shown : List Record) (steps : ℕ) (told : Option Answers) (new : View Deed)
    (build' : Build) (shown' : List Record) (steps' : ℕ) (told' : Option Answers) : Type 0 where
  pub results : List (Result Turned KeepFault)
  pub turns : AreTurnsShown results old build shown new build' shown'
  pub valued : steps' ≡ steps + sum_by valuations_with results
  pub before : List (Result Turned KeepFault)
  pub last : Result Turned KeepFault
  pub given : Ok Idle ∷ results ≡ before ++ last ∷ []
  pub ended : (Answered (goes_on before ++ (last, Stop) ∷ []) told told' × (length new.stops < 2 ^ 57))
      ⊎ (Answered (goes_on before) told told' × (2 ^ 57 ≤ length new.stops))
