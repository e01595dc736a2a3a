-- What a worker makes before it takes the lock, and what it does while it holds it.
use Rattle.std.specs.Prelude.{◌≡◌, ◌<◌, ◌≤◌, List, [], ◌∷◌, ◌++◌, drop}
use Rattle.stock_model.specs.History.{records, accepted, covered, IsLegal}
use Rattle.stock_model.specs.declared.deeds.Deed.{Deed}
use Rattle.stock_model.specs.declared.deeds.Deed.TheVariants as deed
use Rattle.stock_model.specs.declared.records.Record.{Record}
use Rattle.turn_lock.specs.declared.view.View.{View}
use Rattle.repost_fetch.specs.Fetched.{IsFetchedOf}
use Rattle.repost_build.specs.Readings.{base_of, target_of}
use Rattle.repost_build.specs.declared.build.Build.{Build}
use Rattle.repost_worker.specs.Publications.{IsPublicationOf}
use Rattle.repost_worker.specs.Turns.{records_of, IsWorkOf, IsCleanOf, CanFetch}
use Rattle.locked_worker.specs.LockedTurns.{IsStop}
use Rattle.locked_worker.specs.declared.ahead.Ahead.{Ahead}
use Rattle.locked_worker.specs.declared.ahead.Ahead.TheVariants.{Nothing, Ready, Wanting}
use Rattle.locked_worker.specs.declared.stop.Stopped.{Stopped}
use Rattle.locked_worker.specs.declared.stop.Stopped.TheVariants.{Fetched, Published, Idle}

-- it is what is published of a build of these records: nothing where all of them were
abbrev pub IsAheadOf : List Record → Build → Ahead → Type 0
IsAheadOf journal build Nothing = target_of build ≤ base_of build
IsAheadOf journal build (Ready ready) = (base_of build < target_of build) × IsPublicationOf journal build ready
IsAheadOf journal build Wanting = Unit {0}

-- what a stop adds to the history
abbrev pub publications_at : Stopped → List Deed
publications_at (Fetched n fetched) = []
publications_at (Published n before) = deed.Published n ∷ []
publications_at Idle = []

-- this was done under the lock for a build without a suspect, as it is the first that there is to do, and it leads from the first
-- history to the second
abbrev pub IsStoppedOn : List Deed → Build → Stopped → List Deed → Type 0
IsStoppedOn history build (Fetched n fetched) history' =
    CanFetch history build × (n.0 ≡ accepted history) × IsLegal history
    × IsFetchedOf (records_of history build) (drop (target_of build) (records history)) fetched × (history' ≡ history)
IsStoppedOn history build (Published n before) history' =
    (CanFetch history build → ⊥) × (covered history < target_of build) × (n.0 ≡ target_of build)
    × (history' ≡ history ++ deed.Published n ∷ [])
IsStoppedOn history build Idle history' = (covered history ≡ accepted history) × (history' ≡ history)

-- so it was done at one stop, at which the build worked for what the lock handed out and had no suspect, and no fault is counted
pub record IsStoppedAt (old : View Deed) (build : Build) (stopped : Stopped) (new : View Deed) : Type 0 where
  pub taken : List Deed
  pub stop : IsStop old taken (publications_at stopped) new
  pub work : IsWorkOf taken build
  pub clean : IsCleanOf taken build
  pub on : IsStoppedOn taken build stopped (taken ++ publications_at stopped)
  pub no_fault : new.faults ≡ old.faults
