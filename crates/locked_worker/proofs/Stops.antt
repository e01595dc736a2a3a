-- What the lock's clauses say of what a worker does while it holds it, in the words of its stop.
use Rattle.std.proofs.Common.{◌≡◌, ℕ, ◌+◌, ◌-◌, ◌≤◌, ◌<◌, ◌^◌, List, [], ◌∷◌, ◌++◌, length, Result, Ok, Err, IfOk, IfErr, OnErr, refl, sym, ap, ◌∙◌, subst, append-nil, arith}
use Rattle.std.specs.Prelude.{All}
use Rattle.std.proofs.lemmas.List.Elements.{All-nil, All-cons}
use Rattle.stock_model.specs.declared.deeds.Deed.{Deed}
use Rattle.stock_model.specs.declared.deeds.Deed.TheVariants as deed
use Rattle.stock_keeper.proofs.Calls.{never_falls-refused, called-done, called-refused}
use Rattle.stock_keeper.specs.Calls.{KeeperState, IsRefused, AreDone}
use Rattle.stock_keeper.specs.declared.fault.KeepFault.{KeepFault}
use Rattle.stock_keeper.specs.declared.fault.KeepFault.TheVariants.{Failed, NoMemory}
use Rattle.turn_lock.specs.Histories.{BeginsWith, past, made_by}
use Rattle.turn_lock.specs.declared.view.Start.{Start}
use Rattle.turn_lock.specs.declared.view.View.{View}
use Rattle.generation_book.specs.State.{BookState}
use Rattle.generation_book.specs.Follows.{Follows}
use Rattle.generation_book.proofs.Following.{follows-on}
use Rattle.session_laws.specs.Makers.{with_makers}
use Rattle.locked_worker.specs.LockedTurns.{IsStop, IsRefusedTurn}
use Rattle.locked_worker.specs.Stopped.{IsStoppedOn, IsStoppedAt, publications_at}
use Rattle.repost_worker.specs.Turns.{IsWorkOf, IsCleanOf}
use Rattle.repost_build.specs.declared.build.Build.{Build}
use Rattle.locked_worker.specs.declared.stop.Stopped.{Stopped}
use Rattle.locked_worker.specs.declared.stop.Stopped.TheVariants.{Fetched, Published, Idle}
use Rattle.session_laws.proofs.MakersOf.{length-with_makers}
use Rattle.locked_worker.proofs.LockedHistories.{with_makers-begins, past-grown}

-- what is done at a stop adds to the history what it publishes, and that number 0 makes it
pub record AddsOwn (old new : List Deed) : Type 0 where
  pub added : List Deed
  pub grows : new ≡ old ++ added
  pub own : All (λ (e : ℕ × Deed). e.0 ≡ 0) (with_makers added)

pub stop-grows : (old new : List Deed) (build : Build) (stopped : Stopped) → IsStoppedOn old build stopped new
    → new ≡ old ++ publications_at stopped
stop-grows old new build (Fetched n fetched) on = on.4 ∙ sym (append-nil old)
stop-grows old new build (Published n before) on = on.3
stop-grows old new build Idle on = on.1 ∙ sym (append-nil old)

publications-own : (stopped : Stopped) → All (λ (e : ℕ × Deed). e.0 ≡ 0) (with_makers (publications_at stopped))
publications-own (Fetched n fetched) = All-nil (λ (e : ℕ × Deed). e.0 ≡ 0)
publications-own (Published n before) = All-cons (λ (e : ℕ × Deed). e.0 ≡ 0) (0, deed.Published n) [] refl (All-nil (λ (e : ℕ × Deed). e.0 ≡ 0))
publications-own Idle = All-nil (λ (e : ℕ × Deed). e.0 ≡ 0)

pub adds-own : (r : Result Stopped KeepFault) (old new : List Deed) (build : Build)
    → IfOk r (λ stopped. IsStoppedOn old build stopped new) → OnErr r (new ≡ old) → AddsOwn old new
adds-own (Ok stopped) old new build on stays =
    record { added = publications_at stopped; grows = stop-grows old new build stopped on; own = publications-own stopped }
adds-own (Err fault) old new build on stays =
    record { added = []; grows = stays ∙ sym (append-nil old); own = All-nil (λ (e : ℕ × Deed). e.0 ≡ 0) }

-- what `give` requires of what was added
pub gives-own : (old new : List Deed) (taken : List (ℕ × Deed)) (number : ℕ) → number ≡ 0 → with_makers old ≡ taken → AddsOwn old new
    → All (λ (e : ℕ × Deed). e.0 ≡ number) (past taken (with_makers new))
gives-own old new taken number zero is adds =
    subst (λ (k : ℕ). All (λ (e : ℕ × Deed). e.0 ≡ k) (past taken (with_makers new))) (sym zero)
    (subst (λ (es : List (ℕ × Deed)). All (λ (e : ℕ × Deed). e.0 ≡ 0) (past es (with_makers new))) is
    (subst (λ (h : List Deed). All (λ (e : ℕ × Deed). e.0 ≡ 0) (past (with_makers old) (with_makers h))) (sym adds.grows)
    (subst (All (λ (e : ℕ × Deed). e.0 ≡ 0)) (sym (past-grown old adds.added)) adds.own)))

pub gives-grown : (old new : List Deed) (taken : List (ℕ × Deed)) → with_makers old ≡ taken → AddsOwn old new → BeginsWith (with_makers new) taken
gives-grown old new taken is adds =
    subst (BeginsWith (with_makers new)) is
    (subst (λ (h : List Deed). BeginsWith (with_makers h) (with_makers old)) (sym adds.grows) (with_makers-begins old adds.added))

-- one call for each of these was done, and no fault was counted
pub no_fault-done : {T : Type 0} (xs : List T) (old new : KeeperState) → AreDone xs old new → new.faults ≡ old.faults
no_fault-done [] old new done = ap (λ (k : KeeperState). k.faults) done
no_fault-done (x ∷ xs) old new done = no_fault-done xs done.0 new done.2 ∙ done.1.no_fault

-- and no count falls
pub never_falls : (r : Result Stopped KeepFault) (old new : KeeperState) → IfOk r (λ stopped. AreDone (publications_at stopped) old new)
    → IfErr r (λ fault. IsRefused fault old new) → old.faults ≤ new.faults
never_falls (Ok stopped) old new done refused = omega (arith, no_fault-done (publications_at stopped) old new done)
never_falls (Err fault) old new done refused = never_falls-refused fault old new refused

-- the keeper was called for each event that was added
pub follows-stop : (start : Start) (r : Result Stopped KeepFault) (old new : BookState) (build : Build) → Follows start old
    → IfOk r (λ stopped. IsStoppedOn old.history build stopped new.history) → OnErr r (new.history ≡ old.history)
    → IfOk r (λ stopped. AreDone (publications_at stopped) old.keeper new.keeper) → IfErr r (λ fault. IsRefused fault old.keeper new.keeper)
    → Follows start new
follows-stop start (Ok stopped) old new build before on stays done refused =
    follows-on start old new (publications_at stopped) before (stop-grows old.history new.history build stopped on)
    (called-done (publications_at stopped) old.keeper new.keeper done)
follows-stop start (Err fault) old new build before on stays done refused =
    follows-on start old new [] before (stays ∙ sym (append-nil old.history)) (called-refused fault old.keeper new.keeper refused)

-- what the lock handed out: all that the pass had seen and more, and none of that is of pass 0
pub record IsHanded (pass : View Deed) (history : List Deed) : Type 0 where
  pub begins : BeginsWith (with_makers history) pass.seen
  pub unpublished : made_by 0 (past pass.seen (with_makers history)) ≡ []

pub handed : (pass : View Deed) (history : List Deed) (taken : List (ℕ × Deed)) → with_makers history ≡ taken → pass.number ≡ 0
    → BeginsWith taken pass.seen → made_by pass.number (past pass.seen taken) ≡ [] → IsHanded pass history
handed pass history taken is zero begins none =
    record {
      begins = subst (λ (es : List (ℕ × Deed)). BeginsWith es pass.seen) (sym is) begins;
      unpublished =
          subst (λ (es : List (ℕ × Deed)). made_by 0 (past pass.seen es) ≡ []) (sym is)
          (subst (λ (k : ℕ). made_by k (past pass.seen taken) ≡ []) zero none);
    }

-- what the lock handed out and got back: its history came from the one to the other
pub record IsGiven (pass held new : View Deed) (taken : List (ℕ × Deed)) (history now : List Deed) : Type 0 where
  pub same : held ≡ pass
  pub is : with_makers history ≡ taken
  pub handed_out : IsHanded pass history
  pub seen : new.seen ≡ with_makers now
  pub made : new.made ≡ held.made ++ past taken (with_makers now)
  pub stops : new.stops ≡ held.stops ++ length taken ∷ []
  pub no_fewer : pass.seen_faults ≤ new.seen_faults
  pub rest : new ≡ record held { seen = new.seen; seen_faults = new.seen_faults; made = new.made; stops = new.stops; faults = new.faults }

module _ (pass held new : View Deed) (taken : List (ℕ × Deed)) (history now : List Deed) (given : IsGiven pass held new taken history now) where
  pub stop-given : (added : List Deed) → now ≡ history ++ added → IsStop pass history added new
  stop-given added grows =
      record {
        begins = given.handed_out.begins;
        unpublished = given.handed_out.unpublished;
        seen = given.seen ∙ ap with_makers grows;
        made =
            given.made ∙ ap (λ (v : View Deed). v.made ++ past taken (with_makers now)) given.same
            ∙ ap (λ (es : List (ℕ × Deed)). pass.made ++ es)
            (ap (λ (es : List (ℕ × Deed)). past es (with_makers now)) (sym given.is)
            ∙ ap (λ (h : List Deed). past (with_makers history) (with_makers h)) grows ∙ past-grown history added);
        stops =
            given.stops ∙ ap (λ (v : View Deed). v.stops ++ length taken ∷ []) given.same
            ∙ ap (λ (n : ℕ). pass.stops ++ n ∷ []) (ap length (sym given.is) ∙ length-with_makers history);
        no_fewer = given.no_fewer;
        rest =
            given.rest ∙ ap (λ (v : View Deed). record v { seen = new.seen; seen_faults = new.seen_faults; made = new.made; stops = new.stops; faults = new.faults }) given.same;
      }

  -- what was done
  module _ (keeper keeper' : KeeperState) (counted : new.faults ≡ pass.faults + (keeper'.faults - keeper.faults)) where
    pub stopped-at : (r : Result Stopped KeepFault) (build : Build) → IsWorkOf history build → IsCleanOf history build
        → IfOk r (λ stopped. IsStoppedOn history build stopped now) → IfOk r (λ stopped. AreDone (publications_at stopped) keeper keeper')
        → IfOk r (λ stopped. IsStoppedAt pass build stopped new)
    stopped-at (Err fault) build work clean on done = tt
    stopped-at (Ok stopped) build work clean on done =
        let grows = stop-grows history now build stopped on in
        record {
          taken = history;
          stop = stop-given (publications_at stopped) grows;
          work = work;
          clean = clean;
          on = subst (λ (h : List Deed). IsStoppedOn history build stopped h) grows on;
          no_fault = omega (arith, counted, no_fault-done (publications_at stopped) keeper keeper' done);
        }

    -- or that it was refused
    pub refused-at_stop : (r : Result Stopped KeepFault) → OnErr r (now ≡ history) → IfErr r (λ fault. IsRefused fault keeper keeper')
        → new.seen_faults ≡ keeper'.faults → IfErr r (λ fault. IsRefusedTurn fault pass new)
    refused-at_stop (Ok stopped) stays refused all = tt
    refused-at_stop (Err Failed) stays refused all =
        record {
          taken = history;
          stop = stop-given [] (stays ∙ sym (append-nil history));
          no_less = omega (arith, counted);
          failed = λ failed few.
              let rose : keeper.faults < keeper'.faults = refused.fault (subst (λ (n : ℕ). n < 2 ^ 64 - 1) all few) in
              omega (arith, counted, rose);
        }
    refused-at_stop (Err NoMemory) stays refused all =
        record {
          taken = history;
          stop = stop-given [] (stays ∙ sym (append-nil history));
          no_less = omega (arith, counted);
          failed = λ failed few. absurd cc;
        }
