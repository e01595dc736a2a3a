-- What turns add to a history are publications, and it stays legal.
use Rattle.std.proofs.Common.{◌≡◌, ◌<◌, ◌≤◌, List, [], ◌∷◌, ◌++◌, length, Result, Ok, Err, OnOk, OnErr, Some, None, refl, sym, ap, ◌∙◌, subst, append-nil, append_assoc, arith}
use Rattle.stock_nums.specs.declared.numbers.RecordNo.{RecordNo}
use Rattle.generation_book.specs.State.{BookState}
use Rattle.stock_model.specs.declared.faults.PostFault.{PostFault}
use Rattle.stock_model.specs.History.{accepted, covered, IsLegal}
use Rattle.stock_model.specs.Run.{ArePublications}
use Rattle.stock_model.specs.declared.deeds.Deed.{Deed}
use Rattle.stock_model.specs.declared.deeds.Deed.TheVariants as deed
use Rattle.stock_model.specs.declared.records.Record.{Record}
use Rattle.stock_laws.proofs.Histories.{IsLegalAfter-append}
use Rattle.stock_keeper.specs.Calls.{KeeperState, IsRefused, AreDone}
use Rattle.stock_keeper.specs.declared.fault.KeepFault.{KeepFault}
use Rattle.stock_keeper.proofs.Calls.{AreDone-append}
use Rattle.repost_build.specs.Readings.{target_of}
use Rattle.repost_build.specs.declared.build.Build.{Build}
use Rattle.repost_worker.specs.Published.{Publishes}
use Rattle.repost_worker.specs.Runs.{AreTurnsTo}
use Rattle.repost_worker.specs.Turns.{IsWorkOf, IsTurnTo, publications}
use Rattle.repost_worker.specs.declared.turn.Turned.{Turned}
use Rattle.repost_worker.specs.declared.turn.Turned.TheVariants.{Valued, Fetched, Published, Idle}
use Rattle.repost_worker.proofs.Works.{records-published, work-kept}

-- nothing was published, and the keeper not called
pub publishes-none : (history : List Deed) (keeper : KeeperState) → Publishes None history keeper history keeper
publishes-none history keeper =
    record { more = []; publications = tt; grows = sym (append-nil history); between = keeper; done = refl; last = refl }

pub both-publish : (first second : List Deed) → ArePublications first → ArePublications second → ArePublications (first ++ second)
both-publish [] second one other = other
both-publish (deed.Kept item ∷ first) second one other = one
both-publish (deed.Published n ∷ first) second one other = both-publish first second one other

-- what a turn adds to the history
pub turn-publishes : (turned : Turned) → ArePublications (publications turned)
turn-publishes (Valued place) = tt
turn-publishes (Fetched n) = tt
turn-publishes (Published n) = tt
turn-publishes Idle = tt

pub turn-grows : (old new : List Deed) (build next : Build) (turned : Turned) → IsTurnTo old build turned new next
    → new ≡ old ++ publications turned
turn-grows old new build next (Valued place) turn = turn.0 ∙ sym (append-nil old)
turn-grows old new build next (Fetched n) turn = turn.3 ∙ sym (append-nil old)
turn-grows old new build next (Published n) turn = turn.4
turn-grows old new build next Idle turn = turn.2 ∙ sym (append-nil old)

module _ (old : List Deed) (keeper : KeeperState) (mid : List Deed) (keeper-mid : KeeperState) (before : Publishes None old keeper mid keeper-mid)
  where
    -- one more turn was made
    pub publishes-more : (new : List Deed) (keeper' : KeeperState) (build next : Build) (turned : Turned) → IsTurnTo mid build turned new next
        → AreDone (publications turned) keeper-mid keeper' → Publishes None old keeper new keeper'
    publishes-more new keeper' build next turned turn done =
        record {
          more = before.more ++ publications turned;
          publications = both-publish before.more (publications turned) before.publications (turn-publishes turned);
          grows =
              turn-grows mid new build next turned turn ∙ ap (λ (h : List Deed). h ++ publications turned) before.grows
              ∙ append_assoc old before.more (publications turned);
          between = keeper';
          done =
              AreDone-append before.more (publications turned) keeper keeper-mid keeper'
              (subst (AreDone before.more keeper) (sym before.last) before.done) done;
          last = refl;
        }

    -- one more turn was refused
    pub publishes-refused : (new : List Deed) (keeper' : KeeperState) (fault : KeepFault) → new ≡ mid → IsRefused fault keeper-mid keeper'
        → Publishes (Some fault) old keeper new keeper'
    publishes-refused new keeper' fault same refused =
        record {
          more = before.more;
          publications = before.publications;
          grows = same ∙ before.grows;
          between = before.between;
          done = before.done;
          last = subst (λ (k : KeeperState). IsRefused fault k keeper') before.last refused;
        }

-- a record was accepted, or nothing changed
pub work-posted : (r : Result RecordNo PostFault) (old new : BookState) (item : Record) (build : Build)
    → OnOk r (new.history ≡ old.history ++ deed.Kept item ∷ []) → OnErr r (new.history ≡ old.history) → IsWorkOf old.history build
    → IsWorkOf new.history build
work-posted (Ok n) old new item build kept unchanged work =
    subst (λ (h : List Deed). IsWorkOf h build) (sym kept) (work-kept old.history build item work)
work-posted (Err f) old new item build kept unchanged work =
    subst (λ (h : List Deed). IsWorkOf h build) (sym unchanged) work

-- a turn keeps a history legal, and a build that has no more records than were accepted
turn-legal : (old new : List Deed) (build next : Build) (turned : Turned) → IsTurnTo old build turned new next → target_of build ≤ accepted old
    → IsLegal old → IsLegal new × (target_of next ≤ accepted new)
turn-legal old new build next (Valued place) turn within legal = (
  subst IsLegal (sym turn.0) legal,
  omega (arith, within, turn.1.target, ap accepted turn.0),
)
turn-legal old new build next (Fetched n) turn within legal = (
  subst IsLegal (sym turn.3) legal,
  omega (arith, turn.4.target, ap accepted turn.3),
)
turn-legal old new build next (Published n) turn within legal =
    let later : covered old < n.0 = omega (arith, turn.2, turn.3) in
    let held : n.0 ≤ accepted old = omega (arith, turn.3, within) in
    let same : accepted (old ++ deed.Published n ∷ []) ≡ accepted old = ap length (records-published old n) in (
      subst IsLegal (sym turn.4) (IsLegalAfter-append [] 0 old (deed.Published n ∷ []) legal (later, held, tt)),
      omega (arith, within, turn.5.target, ap accepted turn.4, same),
    )
turn-legal old new build next Idle turn within legal = (
  subst IsLegal (sym turn.2) legal,
  omega (arith, within, turn.3.target, ap accepted turn.2),
)

pub turns-legal : (turns : List Turned) (old new : List Deed) (build next : Build) → AreTurnsTo turns old build new next
    → target_of build ≤ accepted old → IsLegal old → IsLegal new
turns-legal [] old new build next none within legal = subst IsLegal (sym none.0) legal
turns-legal (turned ∷ turns) old new build next are within legal =
    let one = turn-legal old are.0 build are.1 turned are.2 within legal in
    turns-legal turns are.0 new are.1 next are.3 one.1 one.0
