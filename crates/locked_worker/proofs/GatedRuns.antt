-- What turns one after another add to what a pass has seen and made.
use Rattle.std.proofs.Common.{◌≡◌, ℕ, List, [], ◌∷◌, ◌++◌, Result, Ok, Err, sym, ap, ◌∙◌, subst, append-nil, append_assoc}
use Rattle.stock_model.specs.Run.{ArePublications}
use Rattle.stock_model.specs.declared.deeds.Deed.{Deed}
use Rattle.stock_keeper.specs.declared.fault.KeepFault.{KeepFault}
use Rattle.turn_lock.specs.Histories.{BeginsWith}
use Rattle.turn_lock.specs.declared.view.View.{View}
use Rattle.turn_lock.proofs.Lists.{begins_self, begins_through}
use Rattle.repost_build.specs.declared.build.Build.{Build}
use Rattle.session_laws.specs.Makers.{with_makers}
use Rattle.locked_worker.specs.GatedRuns.{IsTurnWith, AreTurnsWith}
use Rattle.locked_worker.specs.LockedTurns.{IsStop}
use Rattle.repost_worker.specs.Turns.{publications}
use Rattle.repost_worker.specs.declared.turn.Turned.{Turned}
use Rattle.repost_worker.specs.declared.turn.Turned.TheVariants.{Valued, Fetched, Published, Idle}
use Rattle.session_laws.proofs.MakersOf.{with_makers-append}
use Rattle.locked_worker.proofs.LockedHistories.{with_makers-begins}
use Rattle.repost_worker.proofs.Working.{both-publish, turn-publishes}

-- the pass made these publications and no more
pub record Publishes (old new : View Deed) : Type 0 where
  pub grows : BeginsWith new.seen old.seen
  pub more : List Deed
  pub publications_are : ArePublications more
  pub made : new.made ≡ old.made ++ with_makers more

publishes-none : (pass : View Deed) → Publishes pass pass
publishes-none pass =
    record { grows = begins_self pass.seen; more = []; publications_are = tt; made = sym (append-nil pass.made) }

publishes-both : (old mid new : View Deed) → Publishes old mid → Publishes mid new → Publishes old new
publishes-both old mid new one other = record {
  grows = begins_through old.seen mid.seen new.seen one.grows other.grows;
  more = one.more ++ other.more;
  publications_are = both-publish one.more other.more one.publications_are other.publications_are;
  made =
      other.made ∙ ap (λ (es : List (ℕ × Deed)). es ++ with_makers other.more) one.made
      ∙ append_assoc old.made (with_makers one.more) (with_makers other.more)
      ∙ ap (λ (es : List (ℕ × Deed)). old.made ++ es) (sym (with_makers-append one.more other.more));
}

publishes-stop : (old new : View Deed) (taken added : List Deed) → ArePublications added → IsStop old taken added new → Publishes old new
publishes-stop old new taken added are stop = record {
  grows = subst (λ (es : List (ℕ × Deed)). BeginsWith es old.seen) (sym stop.seen)
      (begins_through old.seen (with_makers taken) (with_makers (taken ++ added)) stop.begins (with_makers-begins taken added));
  more = added;
  publications_are = are;
  made = stop.made;
}

publishes-turn : (r : Result Turned KeepFault) (old : View Deed) (build : Build) (new : View Deed) (build' : Build) → IsTurnWith old build r new build'
    → Publishes old new
publishes-turn (Ok (Valued place)) old build new build' turn = subst (Publishes old) (sym turn.0) (publishes-none old)
publishes-turn (Ok (Fetched n)) old build new build' turn =
    publishes-stop old new turn.taken (publications (Fetched n)) (turn-publishes (Fetched n)) turn.stop
publishes-turn (Ok (Published n)) old build new build' turn =
    publishes-stop old new turn.taken (publications (Published n)) (turn-publishes (Published n)) turn.stop
publishes-turn (Ok Idle) old build new build' turn =
    publishes-stop old new turn.taken (publications Idle) (turn-publishes Idle) turn.stop
publishes-turn (Err fault) old build new build' turn = publishes-stop old new turn.0.taken [] tt turn.0.stop

pub publishes-turns : (results : List (Result Turned KeepFault)) (old : View Deed) (build : Build) (new : View Deed) (build' : Build)
    → AreTurnsWith results old build new build' → Publishes old new
publishes-turns [] old build new build' run = subst (Publishes old) (sym run.0) (publishes-none old)
publishes-turns (r ∷ results) old build new build' run =
    publishes-both old run.1.0 new (publishes-turn r old build run.1.0 run.1.1 run.1.2)
    (publishes-turns results run.1.0 run.1.1 new build' run.1.3)
