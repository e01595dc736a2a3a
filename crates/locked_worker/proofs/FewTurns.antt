-- How many turns a build has from its first fetch on, whatever is posted meanwhile.
use Rattle.std.proofs.Common.{◌≡◌, ◌⊎◌, ℕ, ◌+◌, ◌*◌, ◌≤◌, List, [], ◌∷◌, ◌++◌, length, take, drop, sum_by, Result, Ok, Err, inl, inr, refl, sym, ap, ◌∙◌, subst, append-nil, length-append, arith}
use Rattle.std.specs.Prelude.{All}
use Rattle.std.proofs.Math.Nat.{add-mul, mul-le-mul_left, mul_comm}
use Rattle.std.proofs.Math.Seq.{take-length}
use Rattle.std.proofs.lemmas.List.{take-append-le}
use Rattle.std.proofs.lemmas.List.Elements.{All-head, All-tail}
use Rattle.std.proofs.lemmas.List.Sums.{sum_by-cons, sum_by_push}
use Rattle.stock_nums.specs.declared.numbers.RecordNo.{RecordNo}
use Rattle.stock_model.specs.History.{records, accepted}
use Rattle.stock_model.specs.PostingOrder.{posting_line}
use Rattle.stock_model.specs.declared.deeds.Deed.{Deed}
use Rattle.stock_model.specs.declared.deeds.Deed.TheVariants as deed
use Rattle.stock_model.specs.declared.records.Record.{Record}
use Rattle.stock_laws.proofs.Histories.{records-append}
use Rattle.stock_keeper.specs.declared.fault.KeepFault.{KeepFault}
use Rattle.turn_lock.specs.declared.view.View.{View}
use Rattle.session_laws.specs.Makers.{without_makers}
use Rattle.session_laws.proofs.MakersOf.{without_makers-with_makers}
use Rattle.repost_frontier.specs.Readings.{suspects_of}
use Rattle.repost_frontier.specs.declared.slot.Slot.{Slot}
use Rattle.repost_laws.specs.WholeBuilds.{made}
use Rattle.repost_laws.proofs.MadeEntries.{length-line-made}
use Rattle.repost_build.specs.Readings.{suspects_in, target_of, fetches_of, IsUnchanged}
use Rattle.repost_build.specs.declared.build.Build.{Build}
use Rattle.locked_worker.specs.GatedRuns.{IsTurnWith, AreTurnsWith, turns_with, valuations_with, PublishesNothing, StaysWithBuild, movements_in, movements_ahead}
use Rattle.locked_worker.specs.LockedTurns.{IsStop}
use Rattle.repost_worker.specs.Turns.{records_of, ahead_in, IsWorkOf}
use Rattle.repost_worker.specs.declared.turn.Turned.{Turned}
use Rattle.repost_worker.specs.declared.turn.Turned.TheVariants.{Valued, Fetched, Published, Idle}
use Rattle.locked_worker.proofs.LockedHistories.{taken-is}
use Rattle.repost_worker.proofs.TurnsAhead.{ahead-within, ahead-turned, made-front}
use Rattle.repost_worker.proofs.Works.{records-published}

-- the build is of no more records than were seen, and made no more fetches than it may
pub record IsWithin (view : View Deed) (build : Build) : Type 0 where
  pub target : target_of build ≤ accepted (without_makers view.seen)
  pub fetches : fetches_of build ≤ 4

-- more events leave the records that the build is of
records_of-later : (history more : List Deed) (build : Build) → target_of build ≤ accepted history
    → records_of (history ++ more) build ≡ records_of history build
records_of-later history more build within =
    ap (take (target_of build)) (records-append history more) ∙ take-append-le (target_of build) (records history) (records more) within

-- what is seen once the lock was taken and nothing added
module _ (old new : View Deed) (taken : List Deed) (stop : IsStop old taken [] new) where
  seen-stop : without_makers new.seen ≡ taken
  seen-stop = ap without_makers stop.seen ∙ without_makers-with_makers (taken ++ []) ∙ append-nil taken

  grown-stop : without_makers new.seen ≡ without_makers old.seen ++ drop (length old.seen) taken
  grown-stop = seen-stop ∙ taken-is old.seen taken stop.begins

  -- a build that is of as many records is of the same
  records_of-stop : (build build' : Build) → target_of build ≤ accepted (without_makers old.seen) → target_of build' ≡ target_of build
      → records_of (without_makers new.seen) build' ≡ records_of (without_makers old.seen) build
  records_of-stop build build' within same =
      ap (λ (h : List Deed). records_of h build') grown-stop
      ∙ ap (λ (n : ℕ). take n (records (without_makers old.seen ++ drop (length old.seen) taken))) same
      ∙ records_of-later (without_makers old.seen) (drop (length old.seen) taken) build within

  accepted-stop : accepted (without_makers old.seen) ≤ accepted (without_makers new.seen)
  accepted-stop =
      let more = drop (length old.seen) taken in
      omega (
        arith,
        ap accepted grown-stop,
        ap length (records-append (without_makers old.seen) more),
        length-append (records (without_makers old.seen)) (records more),
      )

-- What one turn comes to that publishes nothing: it is of so many, and there are fewer movements ahead, or it is a fetch.
pub record IsOneOf (old : View Deed) (build : Build) (turns : ℕ) (new : View Deed) (build' : Build) : Type 0 where
  pub within : IsWithin new build'
  pub movements : movements_in old build ≤ movements_in new build'
  pub comes : ((fetches_of build' ≡ fetches_of build) × (turns + movements_ahead new build' ≤ movements_ahead old build))
      ⊎ ((fetches_of build' ≡ fetches_of build + 1) × (turns ≤ 1))

-- a turn that changed nothing
one-still : (old : View Deed) (build : Build) (taken : List Deed) (new : View Deed) (build' : Build) → IsWithin old build
    → IsStop old taken [] new → IsUnchanged build build' → IsOneOf old build 0 new build'
one-still old build taken new build' within stop same =
    let journal = records_of-stop old new taken stop build build' within.target same.target in
    record {
      within = record {
        target = omega (arith, same.target, within.target, accepted-stop old new taken stop);
        fetches = omega (arith, same.fetches, within.fetches);
      };
      movements = omega (arith, ap (λ (rs : List Record). made rs) journal);
      comes = inl (
        same.fetches,
        omega (
          arith,
          ap (λ (rs : List Record). ahead_in (suspects_in build') (posting_line rs)) journal,
          ap (λ (slots : List Slot). ahead_in (suspects_of slots) (posting_line (records_of (without_makers old.seen) build))) same.slots,
        ),
      );
    }

one-turn : (r : Result Turned KeepFault) (old : View Deed) (build : Build) (new : View Deed) (build' : Build) → IsWithin old build
    → IsTurnWith old build r new build' → PublishesNothing r → IsOneOf old build (turns_with r) new build'
one-turn (Ok (Valued place)) old build new build' within turn none =
    let seen : without_makers new.seen ≡ without_makers old.seen = ap (λ (v : View Deed). without_makers v.seen) turn.0 in
    let turned = turn.1.1 in
    let journal : records_of (without_makers new.seen) build' ≡ records_of (without_makers old.seen) build =
    ap (λ (h : List Deed). records_of h build') seen ∙ ap (λ (n : ℕ). take n (records (without_makers old.seen))) turned.target in
    record {
      within = record {
        target = omega (arith, within.target, turned.target, ap accepted seen);
        fetches = omega (arith, within.fetches, turned.fetches);
      };
      movements = omega (arith, ap (λ (rs : List Record). made rs) journal);
      comes = inl (
        turned.fetches,
        omega (
          arith,
          ahead-turned (records_of (without_makers old.seen) build) build build' place turned,
          ap (λ (rs : List Record). ahead_in (suspects_in build') (posting_line rs)) journal,
        ),
      );
    }
one-turn (Ok (Fetched n)) old build new build' within turn none =
    let fetch = turn.turn in
    let stop : IsStop old turn.taken [] new = turn.stop in
    let seen = seen-stop old new turn.taken stop in
    let front = made-front (records (without_makers new.seen)) (target_of build) in
    let journal = records_of-stop old new turn.taken stop build build within.target refl in
    let all : target_of build' ≡ accepted (without_makers new.seen) = fetch.4.target ∙ sym (ap accepted seen) in
    let whole : records_of (without_makers new.seen) build' ≡ records (without_makers new.seen) =
    ap (λ (k : ℕ). take k (records (without_makers new.seen))) all ∙ take-length (records (without_makers new.seen)) in
    record {
      within = record { target = omega (arith, all); fetches = omega (arith, fetch.4.fetches, fetch.1.1) };
      movements = omega (
        arith,
        front,
        ap (λ (rs : List Record). made rs) journal,
        ap (λ (rs : List Record). made rs) whole,
      );
      comes = inr (fetch.4.fetches, omega arith);
    }
one-turn (Ok (Published n)) old build new build' within turn none = absurd none
one-turn (Ok Idle) old build new build' within turn none =
    one-still old build turn.taken new build' within turn.stop turn.turn.3
one-turn (Err fault) old build new build' within turn none = one-still old build turn.0.taken new build' within turn.0.stop turn.1

-- turns that publish nothing
pub record AreSome (old : View Deed) (build : Build) (new : View Deed) (build' : Build) : Type 0 where
  pub within : IsWithin new build'
  pub movements : movements_in old build ≤ movements_in new build'

some-turns : (results : List (Result Turned KeepFault)) (old : View Deed) (build : Build) (new : View Deed) (build' : Build)
    → IsWithin old build → AreTurnsWith results old build new build' → All PublishesNothing results → AreSome old build new build'
some-turns [] old build new build' within run none =
    subst (λ (v : View Deed). AreSome old build v build') (sym run.0)
    (subst (AreSome old build old) (sym run.1) (record { within = within; movements = omega arith }))
some-turns (r ∷ results) old build new build' within run none =
    let one = one-turn r old build run.1.0 run.1.1 within run.1.2 (All-head PublishesNothing r results none) in
    let rest = some-turns results run.1.0 run.1.1 new build' one.within run.1.3 (All-tail PublishesNothing r results none) in
    record { within = rest.within; movements = omega (arith, one.movements, rest.movements) }

-- with as many movements at most there are no more turns than movements ahead, and for each fetch one and all movements
one-more : (turns more ahead mid_ahead fetches mid_fetches last most : ℕ)
    → ((mid_fetches ≡ fetches) × (turns + mid_ahead ≤ ahead)) ⊎ ((mid_fetches ≡ fetches + 1) × (turns ≤ 1)) → mid_ahead ≤ most
    → more + mid_fetches * (most + 1) ≤ mid_ahead + last → turns + more + fetches * (most + 1) ≤ ahead + last
one-more turns more ahead mid_ahead fetches mid_fetches last most (inl still) within rest =
    omega (arith, still.1, rest, ap (λ (n : ℕ). n * (most + 1)) still.0)
one-more turns more ahead mid_ahead fetches mid_fetches last most (inr fetched) within rest =
    omega (arith, fetched.1, rest, within, ap (λ (n : ℕ). n * (most + 1)) fetched.0, add-mul fetches 1 (most + 1))

counted-turns : (results : List (Result Turned KeepFault)) (old : View Deed) (build : Build) (new : View Deed) (build' : Build) (most : ℕ)
    → IsWithin old build → AreTurnsWith results old build new build' → All PublishesNothing results → movements_in new build' ≤ most
    → sum_by turns_with results + fetches_of build * (most + 1) ≤ movements_ahead old build + fetches_of build' * (most + 1)
counted-turns [] old build new build' most within run none few =
    omega (arith, ap (λ (b : Build). fetches_of b * (most + 1)) run.1)
counted-turns (r ∷ results) old build new build' most within run none few =
    let mid = run.1.0 in
    let then = run.1.1 in
    let one = one-turn r old build mid then within run.1.2 (All-head PublishesNothing r results none) in
    let others = All-tail PublishesNothing r results none in
    let later = some-turns results mid then new build' one.within run.1.3 others in
    let rest = counted-turns results mid then new build' most one.within run.1.3 others few in
    let ahead : movements_ahead mid then ≤ most =
    omega (
      arith,
      ahead-within (suspects_in then) (posting_line (records_of (without_makers mid.seen) then)),
      length-line-made (records_of (without_makers mid.seen) then),
      later.movements,
      few,
    ) in
    omega (
      arith,
      sum_by-cons turns_with r results,
      one-more (turns_with r) (sum_by turns_with results) (movements_ahead old build) (movements_ahead mid then) (fetches_of build)
          (fetches_of then) (fetches_of build' * (most + 1)) most one.comes ahead rest,
    )

within-work : (view : View Deed) (build : Build) → IsWorkOf (without_makers view.seen) build → IsWithin view build
within-work view build work = record { target = work.within; fetches = work.fetches }

-- from the first fetch on
module _ (old new : View Deed) (build build' : Build) (n : RecordNo) (results : List (Result Turned KeepFault))
    (work : IsWorkOf (without_makers old.seen) build) (first : fetches_of build ≡ 0)
    (run : AreTurnsWith (Ok (Fetched n) ∷ results) old build new build') (none : All PublishesNothing results) where
  abbrev pub mid : View Deed
  mid = run.1.0

  abbrev pub then : Build
  then = run.1.1

  one-fetch : IsOneOf old build 1 mid then
  one-fetch = one-turn (Ok (Fetched n)) old build mid then (within-work old build work) run.1.2 tt

  pub few-turns : sum_by turns_with (Ok (Fetched n) ∷ results) ≤ 4 * (movements_in new build' + 1)
  few-turns =
      let most = movements_in new build' in
      let later = some-turns results mid then new build' one-fetch.within run.1.3 none in
      let rest = counted-turns results mid then new build' most one-fetch.within run.1.3 none (omega arith) in
      let ahead : movements_ahead mid then ≤ most =
      omega (
        arith,
        ahead-within (suspects_in then) (posting_line (records_of (without_makers mid.seen) then)),
        length-line-made (records_of (without_makers mid.seen) then),
        later.movements,
      ) in
      let one : 1 * (most + 1) ≤ fetches_of then * (most + 1) =
      omega (arith, ap (λ (k : ℕ). k * (most + 1)) run.1.2.turn.4.fetches, ap (λ (k : ℕ). (k + 1) * (most + 1)) first) in
      let four = mul-le-mul_left (most + 1) later.within.fetches in
      omega (
        arith,
        sum_by-cons turns_with (Ok (Fetched n)) results,
        rest,
        ahead,
        one,
        four,
        mul_comm (most + 1) (fetches_of build'),
        mul_comm (most + 1) 4,
      )

-- the last of turns, after all others
turns-last : (results : List (Result Turned KeepFault)) (r : Result Turned KeepFault) (old : View Deed) (build : Build) (new : View Deed)
    (build' : Build) → AreTurnsWith (results ++ r ∷ []) old build new build'
    → (mid : View Deed) × (then : Build) × AreTurnsWith results old build mid then × IsTurnWith mid then r new build'
turns-last [] r old build new build' run = (
  old,
  build,
  (refl, refl),
  subst (λ (v : View Deed). IsTurnWith old build r v build') (sym run.1.3.0)
      (subst (λ (b : Build). IsTurnWith old build r run.1.0 b) (sym run.1.3.1) run.1.2),
)
turns-last (first ∷ results) r old build new build' run =
    let rest = turns-last results r run.1.0 run.1.1 new build' run.1.3 in
    (rest.0, rest.1, (run.0, (run.1.0, run.1.1, run.1.2, rest.2)), rest.3)

-- a publication is of the movements that the build had
movements-published : (old : View Deed) (build : Build) (m : RecordNo) (new : View Deed) (build' : Build) → IsWithin old build
    → IsTurnWith old build (Ok (Published m)) new build' → movements_in new build' ≡ movements_in old build
movements-published old build m new build' within turn =
    let more = drop (length old.seen) turn.taken in
    let seen : without_makers new.seen ≡ turn.taken ++ deed.Published m ∷ [] =
    ap without_makers turn.stop.seen ∙ without_makers-with_makers (turn.taken ++ deed.Published m ∷ []) in
    let all : records (without_makers new.seen) ≡ records turn.taken = ap records seen ∙ records-published turn.taken m in
    let journal : records_of (without_makers new.seen) build' ≡ records_of (without_makers old.seen) build =
    ap (take (target_of build')) all ∙ ap (λ (k : ℕ). take k (records turn.taken)) turn.turn.5.target
    ∙ ap (λ (h : List Deed). records_of h build) (taken-is old.seen turn.taken turn.stop.begins)
    ∙ records_of-later (without_makers old.seen) more build within.target in
    ap (λ (rs : List Record). made rs) journal

pub few-published : (old new : View Deed) (build build' : Build) (n m : RecordNo) (results : List (Result Turned KeepFault))
    → IsWorkOf (without_makers old.seen) build → fetches_of build ≡ 0
    → AreTurnsWith (Ok (Fetched n) ∷ results ++ Ok (Published m) ∷ []) old build new build' → All PublishesNothing results
    → sum_by turns_with (Ok (Fetched n) ∷ results ++ Ok (Published m) ∷ []) ≤ 4 * (movements_in new build' + 1) + 1
few-published old new build build' n m results work first run none =
    let last = turns-last (Ok (Fetched n) ∷ results) (Ok (Published m)) old build new build' run in
    let one = one-turn (Ok (Fetched n)) old build last.2.1.0 last.2.1.1 (within-work old build work) last.2.1.2 tt in
    let some = some-turns results last.2.1.0 last.2.1.1 last.0 last.1 one.within last.2.1.3 none in
    let few = few-turns old last.0 build last.1 n results work first last.2 none in
    omega (
      arith,
      few,
      sum_by_push turns_with (Ok (Fetched n) ∷ results) (Ok (Published m)),
      movements-published last.0 last.1 m new build' some.within last.3,
    )

-- ---- between two fetches

one-staying : (r : Result Turned KeepFault) (old : View Deed) (build : Build) (new : View Deed) (build' : Build) → IsWithin old build
    → IsTurnWith old build r new build' → StaysWithBuild r
    → IsWithin new build' × (valuations_with r + movements_ahead new build' ≤ movements_ahead old build)
one-staying (Ok (Valued place)) old build new build' within turn stays =
    let one = one-turn (Ok (Valued place)) old build new build' within turn tt in
    elim one.comes [
      | inl still ↦ (one.within, still.1)
      | inr fetched ↦ absurd (omega (arith, fetched.0, turn.1.1.fetches))
    ]
one-staying (Ok (Fetched n)) old build new build' within turn stays = absurd stays
one-staying (Ok (Published n)) old build new build' within turn stays = absurd stays
one-staying (Ok Idle) old build new build' within turn stays =
    let one = one-turn (Ok Idle) old build new build' within turn tt in
    elim one.comes [
      | inl still ↦ (one.within, still.1)
      | inr fetched ↦ absurd (omega (arith, fetched.0, turn.turn.3.fetches))
    ]
one-staying (Err fault) old build new build' within turn stays =
    let one = one-turn (Err fault) old build new build' within turn tt in
    elim one.comes [
      | inl still ↦ (one.within, still.1)
      | inr fetched ↦ absurd (omega (arith, fetched.0, turn.1.fetches))
    ]

staying-turns : (results : List (Result Turned KeepFault)) (old : View Deed) (build : Build) (new : View Deed) (build' : Build)
    → IsWithin old build → AreTurnsWith results old build new build' → All StaysWithBuild results
    → sum_by valuations_with results ≤ movements_ahead old build
staying-turns [] old build new build' within run stays = omega arith
staying-turns (r ∷ results) old build new build' within run stays =
    let one = one-staying r old build run.1.0 run.1.1 within run.1.2 (All-head StaysWithBuild r results stays) in
    let rest = staying-turns results run.1.0 run.1.1 new build' one.0 run.1.3 (All-tail StaysWithBuild r results stays) in
    omega (arith, sum_by-cons valuations_with r results, one.1, rest)

pub few-valued : (old new : View Deed) (build build' : Build) (results : List (Result Turned KeepFault))
    → IsWorkOf (without_makers old.seen) build → AreTurnsWith results old build new build' → All StaysWithBuild results
    → sum_by valuations_with results ≤ movements_ahead old build
few-valued old new build build' results work run stays = staying-turns results old build new build' (within-work old build work) run stays
