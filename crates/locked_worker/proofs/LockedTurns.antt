-- A build that works for what a pass has seen works for what the lock hands out, and its turn there is one of the policy.
use Rattle.std.proofs.Common.{◌≡◌, ℕ, List, ◌++◌, length, take, drop, Result, Ok, Err, IfOk, OnErr, sym, ap, ◌∙◌, subst, length-append, arith}
use Rattle.std.proofs.lemmas.Bool.{false≢true}
use Rattle.std.proofs.lemmas.List.{take-append-le}
use Rattle.stock_nums.specs.declared.place.Place.{Place}
use Rattle.stock_model.specs.History.{records, covered}
use Rattle.stock_model.specs.PostingOrder.{posting_line}
use Rattle.stock_model.specs.declared.deeds.Deed.{Deed}
use Rattle.stock_model.specs.declared.records.Record.{Record}
use Rattle.stock_laws.proofs.Histories.{records-append, covered_after-append}
use Rattle.stock_keeper.specs.declared.fault.KeepFault.{KeepFault}
use Rattle.repost_laws.specs.Builds.{IsClean}
use Rattle.repost_build.specs.Builds.{IsOf, IsTurned}
use Rattle.repost_build.specs.Readings.{suspects_in, target_of, IsUnchanged}
use Rattle.repost_build.specs.declared.build.Build.{Build}
use Rattle.turn_lock.specs.Histories.{made_by}
use Rattle.turn_lock.specs.declared.view.View.{View}
use Rattle.session_laws.specs.Makers.{with_makers, without_makers}
use Rattle.session_laws.proofs.MakersOf.{without_makers-with_makers}
use Rattle.locked_worker.specs.declared.stop.Stopped.{Stopped}
use Rattle.locked_worker.specs.LockedTurns.{IsTurnAtStop, IsLockedTurn}
use Rattle.repost_worker.specs.Turns.{records_of, IsWorkOf, IsCleanOf}
use Rattle.repost_worker.specs.declared.turn.Turned.{Turned}
use Rattle.repost_worker.specs.declared.turn.Turned.TheVariants.{Valued, Fetched, Published, Idle}
use Rattle.locked_worker.proofs.LockedHistories.{none_published, past-taken, taken-is}
use Rattle.locked_worker.proofs.Stops.{IsHanded}
use Rattle.repost_worker.proofs.Works.{clean-still, can_fetch-still, can_fetch-then, fetched-still, published-still}

-- more events, of which none is a publication, leave the build at work and of the same records
module _ (history more : List Deed) (build : Build) (none : covered (history ++ more) ≡ covered history) (work : IsWorkOf history build) where
  records_of-more : records_of (history ++ more) build ≡ records_of history build
  records_of-more = ap (take (target_of build)) (records-append history more) ∙ take-append-le (target_of build) (records history) (records more) work.within

  work-more : IsWorkOf (history ++ more) build
  work-more = record {
    of = subst (λ (rs : List Record). IsOf rs build) (sym records_of-more) work.of;
    within = omega (arith, work.within, ap length (records-append history more), length-append (records history) (records more));
    base = work.base ∙ sym none;
    fetches = work.fetches;
  }

  clean-more : IsCleanOf history build → IsCleanOf (history ++ more) build
  clean-more clean = subst (λ (rs : List Record). IsClean (posting_line rs) (suspects_in build)) (sym records_of-more) clean

-- so does what came to the history of a lock since the worker has seen it
module _ (pass : View Deed) (history : List Deed) (build : Build) (handed : IsHanded pass history)
    (work : IsWorkOf (without_makers pass.seen) build) where
  none : covered (without_makers pass.seen ++ drop (length pass.seen) history) ≡ covered (without_makers pass.seen)
  none =
      let more = drop (length pass.seen) history in
      let unmade = sym (ap (made_by 0) (past-taken pass.seen history handed.begins)) ∙ handed.unpublished in
      covered_after-append 0 (without_makers pass.seen) more ∙ none_published (covered (without_makers pass.seen)) more unmade

  pub work-handed : IsWorkOf history build
  work-handed =
      subst (λ (h : List Deed). IsWorkOf h build) (sym (taken-is pass.seen history handed.begins))
      (work-more (without_makers pass.seen) (drop (length pass.seen) history) build none work)

  pub records_of-handed : records_of history build ≡ records_of (without_makers pass.seen) build
  records_of-handed =
      ap (λ (h : List Deed). records_of h build) (taken-is pass.seen history handed.begins)
      ∙ records_of-more (without_makers pass.seen) (drop (length pass.seen) history) build none work

  pub clean-handed : IsCleanOf (without_makers pass.seen) build → IsCleanOf history build
  clean-handed clean =
      subst (λ (h : List Deed). IsCleanOf h build) (sym (taken-is pass.seen history handed.begins))
      (clean-more (without_makers pass.seen) (drop (length pass.seen) history) build none work clean)

-- where nothing was added it works for what is seen after the stop
pub work-stays : (r : Result Stopped KeepFault) (history now : List Deed) (seen : List (ℕ × Deed)) (build : Build) → OnErr r (now ≡ history)
    → seen ≡ with_makers now → IsWorkOf history build → OnErr r (IsWorkOf (without_makers seen) build)
work-stays (Ok stopped) history now seen build stays is work = tt
work-stays (Err fault) history now seen build stays is work =
    subst (λ (h : List Deed). IsWorkOf h build) (sym (ap without_makers is ∙ without_makers-with_makers now ∙ stays)) work

-- a build that did not change did not change
unchanged-through : (old mid new : Build) → IsUnchanged old mid → IsUnchanged mid new → IsUnchanged old new
unchanged-through old mid new one other = record {
  slots = other.slots ∙ one.slots;
  charged = λ line. other.charged line ∙ one.charged line;
  base = other.base ∙ one.base;
  target = other.target ∙ one.target;
  gone = other.gone ∙ one.gone;
  fetches = other.fetches ∙ one.fetches;
  turns = other.turns ∙ one.turns;
}

-- where no movement is suspect, none is valued
none-valued : (journal : List Record) (old new : Build) (place : Place) → IsClean (posting_line journal) (suspects_in old)
    → IsTurned journal old new place → ⊥
none-valued journal old new place clean turned =
    false≢true (sym (clean turned.entry turned.turn.first.held) ∙ turned.turn.suspect)

-- what is left where a turn found no suspect at first
module _ (old mid : Build) (same : IsUnchanged old mid) where
  pub stays-through : (r : Result Turned KeepFault) (new : Build) → OnErr r (IsUnchanged mid new) → OnErr r (IsUnchanged old new)
  stays-through (Ok turned) new stays = tt
  stays-through (Err fault) new stays = unchanged-through old mid new same stays

  -- the turn that the lock was taken for is the one that there was to do
  module _ (pass : View Deed) (work : IsWorkOf (without_makers pass.seen) old) (clean : IsCleanOf (without_makers pass.seen) old) where
    clean-stop : (turned : Turned) (new : View Deed) (build' : Build) → (at : IsTurnAtStop pass mid turned new build') → IsCleanOf at.taken old
    clean-stop turned new build' at =
        clean-handed pass at.taken old (record { begins = at.stop.begins; unpublished = at.stop.unpublished }) work clean

    pub turn-locked : (r : Result Turned KeepFault) (new : View Deed) (build' : Build)
        → IfOk r (λ turned. IsTurnAtStop pass mid turned new build') → IfOk r (λ turned. IsLockedTurn pass old turned new build')
    turn-locked (Err fault) new build' at = tt
    turn-locked (Ok (Valued place)) new build' at =
        let none = clean-still at.taken old mid same (clean-stop (Valued place) new build' at) in
        absurd (none-valued (records_of at.taken mid) mid build' place none at.turn.1)
    turn-locked (Ok (Fetched n)) new build' at =
        let turn = at.turn in
        record {
          taken = at.taken;
          stop = at.stop;
          turn = (
            clean-stop (Fetched n) new build' at,
            can_fetch-still at.taken old mid same turn.1,
            turn.2,
            turn.3,
            fetched-still at.taken old mid same build' turn.4,
          );
          no_fault = at.no_fault;
        }
    turn-locked (Ok (Published n)) new build' at =
        let turn = at.turn in
        record {
          taken = at.taken;
          stop = at.stop;
          turn = (
            clean-stop (Published n) new build' at,
            (λ can. turn.1 (can_fetch-then at.taken old mid same can)),
            omega (arith, turn.2, same.target),
            turn.3 ∙ same.target,
            turn.4,
            published-still at.taken old mid same build' turn.5,
          );
          no_fault = at.no_fault;
        }
    turn-locked (Ok Idle) new build' at =
        let turn = at.turn in
        record {
          taken = at.taken;
          stop = at.stop;
          turn = (clean-stop Idle new build' at, turn.1, turn.2, unchanged-through old mid build' same turn.3);
          no_fault = at.no_fault;
        }
