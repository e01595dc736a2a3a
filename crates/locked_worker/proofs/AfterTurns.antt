-- What turns leave of what a pass knows, and that a gate says to go on or to stop.
use Rattle.std.proofs.Common.{◌≡◌, Result, Ok, Err, IfOk, IfErr, OnErr, refl, sym, ap, ◌∙◌, subst}
use Rattle.stock_model.specs.declared.deeds.Deed.{Deed}
use Rattle.stock_keeper.specs.declared.fault.KeepFault.{KeepFault}
use Rattle.turn_lock.specs.declared.view.View.{View}
use Rattle.repost_build.specs.Readings.{IsUnchanged}
use Rattle.repost_build.specs.declared.build.Build.{Build}
use Rattle.locked_worker.specs.GatedRuns.{IsTurnWith}
use Rattle.locked_worker.specs.LockedTurns.{IsLockedTurn, IsRefusedTurn}
use Rattle.locked_worker.specs.declared.gate.Go.{Go}
use Rattle.locked_worker.specs.declared.gate.Go.TheVariants.{Work, Stop}
use Rattle.repost_worker.specs.declared.turn.Turned.{Turned}
use Rattle.repost_worker.specs.declared.turn.Turned.TheVariants.{Valued, Fetched, Published, Idle}

-- the view of a pass after turns, of which this is known now
abbrev pub after_turns : View Deed → View Deed → View Deed
after_turns old new = record old { seen = new.seen; seen_faults = new.seen_faults; made = new.made; stops = new.stops; faults = new.faults }

-- what a turn leaves of the view of its pass
module _ (old : View Deed) (build : Build) (new : View Deed) (build' : Build) where
  pub turn-with : (r : Result Turned KeepFault) → IfOk r (λ turned. IsLockedTurn old build turned new build')
      → IfErr r (λ fault. IsRefusedTurn fault old new) → OnErr r (IsUnchanged build build') → IsTurnWith old build r new build'
  turn-with (Ok turned) turn refused stays = turn
  turn-with (Err fault) turn refused stays = (refused, stays)

  pub turn-rest : (r : Result Turned KeepFault) → IsTurnWith old build r new build' → new ≡ after_turns old new
  turn-rest (Ok (Valued place)) turn = subst (λ (v : View Deed). v ≡ after_turns old v) (sym turn.0) refl
  turn-rest (Ok (Fetched n)) turn = turn.stop.rest
  turn-rest (Ok (Published n)) turn = turn.stop.rest
  turn-rest (Ok Idle) turn = turn.stop.rest
  turn-rest (Err fault) turn = turn.0.stop.rest

pub rest-through : (old mid new : View Deed) → mid ≡ after_turns old mid → new ≡ after_turns mid new → new ≡ after_turns old new
rest-through old mid new one other = other ∙ ap (λ (v : View Deed). after_turns v new) one

-- a gate that does not say to stop says to go on
pub not-stopped : (go : Go) → (go ≡ Stop → ⊥) → go ≡ Work
not-stopped Work other = refl
not-stopped Stop other = absurd (other refl)
