-- What a look leaves of the view of its pass, and what is shown after a turn.
use Rattle.std.proofs.Common.{◌≡◌, ℕ, ◌^◌, ◌<◌, ◌≤◌, ⊎_elim, List, [], ◌∷◌, ◌++◌, length, take, Result, Ok, Err, inl, inr, refl, sym, ap, ◌∙◌, subst, append-nil, arith}
use Rattle.std.specs.Prelude.{◌⊎◌, OnOk, OnErr, IfOk, IfErr}
use Rattle.std.proofs.lemmas.List.Elements.{All-nil}
use Rattle.stock_nums.specs.declared.numbers.RecordNo.{RecordNo}
use Rattle.stock_model.specs.History.{records, covered, covered_records}
use Rattle.stock_model.specs.declared.deeds.Deed.{Deed}
use Rattle.stock_model.specs.declared.deeds.Deed.TheVariants as deed
use Rattle.stock_model.specs.declared.records.Record.{Record}
use Rattle.stock_laws.proofs.Histories.{covered_after-append}
use Rattle.stock_keeper.specs.declared.fault.KeepFault.{KeepFault}
use Rattle.turn_lock.specs.Histories.{BeginsWith, past, made_by}
use Rattle.turn_lock.specs.declared.view.View.{View}
use Rattle.turn_lock.proofs.Lists.{begins_self, begins_through}
use Rattle.session_laws.specs.Makers.{with_makers, without_makers}
use Rattle.generation_book.specs.State.{BookState}
use Rattle.repost_build.specs.Readings.{IsUnchanged}
use Rattle.repost_build.specs.declared.build.Build.{Build}
use Rattle.repost_worker.specs.declared.turn.Turned.{Turned}
use Rattle.repost_worker.specs.declared.turn.Turned.TheVariants.{Valued, Fetched, Published, Idle}
use Rattle.locked_worker.specs.LockedTurns.{IsLockedTurn, IsRefusedTurn}
use Rattle.locked_worker.specs.GatedRuns.{IsTurnWith, PublishesNothing}
use Rattle.repost_worker.specs.Turns.{IsWorkOf}
use Rattle.locked_worker.proofs.LockedTurns.{work-handed}
use Rattle.locked_worker.proofs.Stops.{AddsOwn, IsHanded, IsGiven, handed, stop-given}
use Rattle.locked_worker.proofs.AfterTurns.{after_turns, turn-with, turn-rest, rest-through}
use Rattle.mirrored_worker.specs.Looks.{IsLook}
use Rattle.mirrored_worker.specs.MirroredRuns.{IsShowing, StaysShown, IsShownAfter, IsTurnShown}
use Rattle.mirrored_worker.proofs.Covering.{covered-taken, seen-stop, covers-stop, covered-none}

-- ---- what the lock hands out and gets back

pub adds-none : (history : List Deed) → AddsOwn history history
adds-none history = record { added = []; grows = sym (append-nil history); own = All-nil (λ (e : ℕ × Deed). e.0 ≡ 0) }

-- what is handed out is what the pass had seen and more
pub handed-book : (pass : View Deed) (book held : BookState) (taken : List (ℕ × Deed)) → book ≡ held → with_makers held.history ≡ taken
    → pass.number ≡ 0 → BeginsWith taken pass.seen → made_by pass.number (past pass.seen taken) ≡ [] → IsHanded pass book.history
handed-book pass book held taken same is zero begins none =
    handed pass book.history taken (ap (λ (b : BookState). with_makers b.history) same ∙ is) zero begins none

-- it got back what it handed out
pub looks-given : (pass held new : View Deed) (taken : List (ℕ × Deed)) (history : List Deed) → IsGiven pass held new taken history history
    → new.faults ≡ pass.faults → IsLook pass new
looks-given pass held new taken history given none =
    record { taken = history; stop = stop-given pass held new taken history history given [] (sym (append-nil history)); no_fault = none }

-- ---- what the book covers, as it is seen

pub covers-look : (old new : View Deed) → IsLook old new
    → BeginsWith (covered_records (without_makers new.seen)) (covered_records (without_makers old.seen))
covers-look old new look = covers-stop old new look.taken [] look.stop (covered-none look.taken)

-- a build that works for what the pass had seen works for what it sees at a look
pub work-look : (old new : View Deed) (build : Build) → IsLook old new → IsWorkOf (without_makers old.seen) build
    → IsWorkOf (without_makers new.seen) build
work-look old new build look work =
    subst (λ (h : List Deed). IsWorkOf h build) (sym (seen-stop old new look.taken [] look.stop ∙ append-nil look.taken))
    (work-handed old look.taken build (record { begins = look.stop.begins; unpublished = look.stop.unpublished }) work)

covered-published : (history : List Deed) (n : RecordNo) → covered (history ++ deed.Published n ∷ []) ≡ n.0
covered-published history n = covered_after-append 0 history (deed.Published n ∷ [])

covers-turn : (r : Result Turned KeepFault) (old : View Deed) (build : Build) (new : View Deed) (build' : Build) → IsTurnWith old build r new build'
    → BeginsWith (covered_records (without_makers new.seen)) (covered_records (without_makers old.seen))
covers-turn (Ok (Valued place)) old build new build' turn =
    subst (λ (v : View Deed). BeginsWith (covered_records (without_makers v.seen)) (covered_records (without_makers old.seen))) (sym turn.0)
    (begins_self (covered_records (without_makers old.seen)))
covers-turn (Ok (Fetched n)) old build new build' turn = covers-stop old new turn.taken [] turn.stop (covered-none turn.taken)
covers-turn (Ok (Published n)) old build new build' turn =
    covers-stop old new turn.taken (deed.Published n ∷ []) turn.stop
    (omega (arith, covered-published turn.taken n, turn.turn.2, turn.turn.3))
covers-turn (Ok Idle) old build new build' turn = covers-stop old new turn.taken [] turn.stop (covered-none turn.taken)
covers-turn (Err fault) old build new build' turn = covers-stop old new turn.0.taken [] turn.0.stop (covered-none turn.0.taken)

-- what was shown before a turn is still a beginning of what is covered
pub covers-worked : (r : Result Turned KeepFault) (old : View Deed) (build : Build) (new : View Deed) (build' : Build) (shown : List Record)
    → IfOk r (λ turned. IsLockedTurn old build turned new build') → IfErr r (λ fault. IsRefusedTurn fault old new)
    → OnErr r (IsUnchanged build build') → BeginsWith (covered_records (without_makers old.seen)) shown
    → BeginsWith (covered_records (without_makers new.seen)) shown
covers-worked r old build new build' shown turn refused stays before =
    begins_through shown (covered_records (without_makers old.seen)) (covered_records (without_makers new.seen)) before
    (covers-turn r old build new build' (turn-with old build new build' r turn refused stays))

-- ---- after a turn

-- a turn that published nothing, or the last one that the pass may take, is followed by no look
pub shows-nothing : (r : Result Turned KeepFault) (view : View Deed) (shown : List Record) → PublishesNothing r ⊎ (2 ^ 57 ≤ length view.stops)
    → IsShownAfter r view shown view shown
shows-nothing (Ok (Valued place)) view shown why = (refl, refl)
shows-nothing (Ok (Fetched n)) view shown why = (refl, refl)
shows-nothing (Ok (Published n)) view shown why = ⊎_elim (λ (none : ⊥). absurd none) (λ (full : 2 ^ 57 ≤ length view.stops). inr (full, (refl, refl))) why
shows-nothing (Ok Idle) view shown why = (refl, refl)
shows-nothing (Err fault) view shown why = (refl, refl)

-- and any other one by one look
pub shows-published : (r : Result Turned KeepFault) (old : View Deed) (shown : List Record) (new : View Deed) (shown' : List Record)
    → (PublishesNothing r → ⊥) → length old.stops < 2 ^ 57 → IsShowing old shown new shown' → IsShownAfter r old shown new shown'
shows-published (Ok (Valued place)) old shown new shown' published few showing = absurd (published tt)
shows-published (Ok (Fetched n)) old shown new shown' published few showing = absurd (published tt)
shows-published (Ok (Published n)) old shown new shown' published few showing = inl (few, showing)
shows-published (Ok Idle) old shown new shown' published few showing = absurd (published tt)
shows-published (Err fault) old shown new shown' published few showing = absurd (published tt)

-- what is shown, where there was memory or not
pub shows-one : {T E : Type 0} (r : Result T E) (now before shown' : List Record) → OnOk r (shown' ≡ now) → OnErr r (shown' ≡ before)
    → (shown' ≡ now) ⊎ (shown' ≡ before)
shows-one (Ok done) now before shown' is stays = inl is
shows-one (Err fault) now before shown' is stays = inr stays

-- ---- the view of the pass

stays-rest : (old new : View Deed) → new ≡ old → new ≡ after_turns old new
stays-rest old new same = subst (λ (v : View Deed). v ≡ after_turns old v) (sym same) refl

shows-rest : (r : Result Turned KeepFault) (old : View Deed) (shown : List Record) (new : View Deed) (shown' : List Record)
    → IsShownAfter r old shown new shown' → new ≡ after_turns old new
shows-rest (Ok (Valued place)) old shown new shown' shows = stays-rest old new shows.0
shows-rest (Ok (Fetched n)) old shown new shown' shows = stays-rest old new shows.0
shows-rest (Ok (Published n)) old shown new shown' shows =
    ⊎_elim (λ (few : (length old.stops < 2 ^ 57) × IsShowing old shown new shown'). few.1.look.stop.rest)
    (λ (full : (2 ^ 57 ≤ length old.stops) × StaysShown old shown new shown'). stays-rest old new full.1.0) shows
shows-rest (Ok Idle) old shown new shown' shows = stays-rest old new shows.0
shows-rest (Err fault) old shown new shown' shows = stays-rest old new shows.0

pub shown-rest : (r : Result Turned KeepFault) (old : View Deed) (build : Build) (shown : List Record) (new : View Deed) (build' : Build)
    (shown' : List Record) → IsTurnShown r old build shown new build' shown' → new ≡ after_turns old new
shown-rest r old build shown new build' shown' one =
    rest-through old one.mid new (turn-rest old build one.mid build' r one.turn) (shows-rest r one.mid shown new shown' one.shows)

-- ---- which records are shown

-- those that were published, or those that were shown before
pub shown-whole : (n : RecordNo) (old : View Deed) (build : Build) (shown : List Record) (new : View Deed) (build' : Build) (shown' : List Record)
    → IsTurnShown (Ok (Published n)) old build shown new build' shown'
    → (shown' ≡ take n.0 (records (without_makers new.seen))) ⊎ (shown' ≡ shown)
shown-whole n old build shown new build' shown' one =
    ⊎_elim
    (λ (few : (length one.mid.stops < 2 ^ 57) × IsShowing one.mid shown new shown').
    let look = few.1.look in
    let count : covered (without_makers new.seen) ≡ n.0 =
    ap covered (seen-stop one.mid new look.taken [] look.stop ∙ append-nil look.taken)
    ∙ covered-taken one.mid.seen look.taken look.stop.begins look.stop.unpublished
    ∙ ap covered (seen-stop old one.mid one.turn.taken (deed.Published n ∷ []) one.turn.stop) ∙ covered-published one.turn.taken n in
    ⊎_elim
    (λ (is : shown' ≡ covered_records (without_makers new.seen)). inl (is ∙ ap (λ (k : ℕ). take k (records (without_makers new.seen))) count))
    (λ (stays : shown' ≡ shown). inr stays) few.1.shows)
    (λ (full : (2 ^ 57 ≤ length one.mid.stops) × StaysShown one.mid shown new shown'). inr full.1.1) one.shows
