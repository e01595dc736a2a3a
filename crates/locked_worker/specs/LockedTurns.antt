-- What a worker's turn does through the lock of a book: at most one stop, and what it publishes.
use Rattle.std.specs.Prelude.{◌≡◌, ◌-◌, ◌^◌, ◌<◌, ◌≤◌, List, [], ◌∷◌, ◌++◌, length}
use Rattle.stock_model.specs.declared.deeds.Deed.{Deed}
use Rattle.stock_keeper.specs.declared.fault.KeepFault.{KeepFault}
use Rattle.stock_keeper.specs.declared.fault.KeepFault.TheVariants.{Failed}
use Rattle.turn_lock.specs.Histories.{BeginsWith, past, made_by}
use Rattle.turn_lock.specs.declared.view.View.{View}
use Rattle.session_laws.specs.Makers.{with_makers, without_makers}
use Rattle.repost_build.specs.declared.build.Build.{Build}
use Rattle.repost_worker.specs.Turns.{IsTurnTo, publications}
use Rattle.repost_worker.specs.declared.turn.Turned.{Turned}
use Rattle.repost_worker.specs.declared.turn.Turned.TheVariants.{Valued}

-- The lock was taken once, when its history had come to `taken`, and given back with these events added. All that was seen is the
-- beginning of it, and nobody has published since.
pub record IsStop (old : View Deed) (taken added : List Deed) (new : View Deed) : Type 0 where
  pub begins : BeginsWith (with_makers taken) old.seen
  pub unpublished : made_by 0 (past old.seen (with_makers taken)) ≡ []
  pub seen : new.seen ≡ with_makers (taken ++ added)
  pub made : new.made ≡ old.made ++ with_makers added
  pub stops : new.stops ≡ old.stops ++ length taken ∷ []
  pub no_fewer : old.seen_faults ≤ new.seen_faults
  pub rest : new ≡ record old { seen = new.seen; seen_faults = new.seen_faults; made = new.made; stops = new.stops; faults = new.faults }

-- a turn that takes the lock does what there is to do at its stop, and no fault is counted
pub record IsTurnAtStop (old : View Deed) (build : Build) (turned : Turned) (new : View Deed) (build' : Build) : Type 0 where
  pub taken : List Deed
  pub stop : IsStop old taken (publications turned) new
  pub turn : IsTurnTo taken build turned (taken ++ publications turned) build'
  pub no_fault : new.faults ≡ old.faults

-- a valuation leaves the lock alone, and every other turn takes it once
abbrev pub IsLockedTurn : View Deed → Build → Turned → View Deed → Build → Type 0
IsLockedTurn old build (Valued place) new build' =
    (new ≡ old) × IsTurnTo (without_makers old.seen) build (Valued place) (without_makers old.seen) build'
IsLockedTurn old build turned new build' = IsTurnAtStop old build turned new build'

-- a refused turn took the lock once and added nothing. Where the keeper failed, a fault was counted
pub record IsRefusedTurn (fault : KeepFault) (old new : View Deed) : Type 0 where
  pub taken : List Deed
  pub stop : IsStop old taken [] new
  pub no_less : old.faults ≤ new.faults
  pub failed : fault ≡ Failed → new.seen_faults < 2 ^ 64 - 1 → old.faults < new.faults
