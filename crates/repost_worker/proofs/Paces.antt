-- How the count of turns grows, and what it stays below.
use Rattle.std.proofs.Common.{◌≡◌, ◌≢◌, ℕ, ◌+◌, ◌*◌, ◌<◌, ◌≤◌, Bool, true, false, cond, List, [], ◌∷◌, ◌++◌, length, map, filter, take, Option, Some, None, IfSome, inl, inr, refl, sym, ap, ◌∙◌, subst, length-append, arith}
use Rattle.std.proofs.Math.Nat.{mul-le-mul_left, mul_comm}
use Rattle.std.proofs.lemmas.Bool.Decides.{nat_tests}
use Rattle.stock_nums.specs.declared.entry.Entry.{Entry}
use Rattle.stock_keeper.specs.declared.fault.KeepFault.{KeepFault}
use Rattle.stock_keeper.specs.declared.fault.KeepFault.TheVariants.{Failed}
use Rattle.generation_book.specs.State.{BookState}
use Rattle.stock_model.specs.History.{records, accepted, covered, covered_after, IsLegalAfter, IsLegal}
use Rattle.stock_model.specs.PostingOrder.{posting_line}
use Rattle.stock_model.specs.declared.deeds.Deed.{Deed}
use Rattle.stock_model.specs.declared.deeds.Deed.TheVariants as deed
use Rattle.stock_model.specs.declared.records.Record.{Record}
use Rattle.stock_laws.proofs.Histories.{records-append, covered_after-append}
use Rattle.stock_model.proofs.Pairwise.{Contains-first, Contains-later}
use Rattle.repost_laws.specs.Touched.{is_new}
use Rattle.repost_laws.specs.WholeBuilds.{made}
use Rattle.repost_build.specs.Readings.{turns_of, fetches_of, target_of, IsUnchanged}
use Rattle.repost_build.specs.declared.build.Build.{Build}
use Rattle.repost_worker.specs.Paces.{Pace, pace_of, movements_of, movements_after, IsInPace, IsAtRest, IsSamePace, WorksInPace, StopsInPace}
use Rattle.repost_worker.specs.Published.{KeepsAlone}
use Rattle.repost_worker.specs.Turns.{records_of, IsWorkOf, CanPublish, IsTurnTo}
use Rattle.repost_worker.specs.Runs.{AreTurnsTo, AreAtWork, AreUntilRefused, IsRun}
use Rattle.repost_worker.specs.declared.turn.Turned.{Turned}
use Rattle.repost_worker.specs.declared.turn.Turned.TheVariants.{Valued, Fetched, Published, Idle}
use Rattle.repost_worker.specs.declared.turn.TheConstants.{MAX_FETCHES}
use Rattle.repost_worker.proofs.TurnsAhead.{made-front}
use Rattle.repost_worker.proofs.OpenedOrder.{records-kept, covered-kept, take-front}
use Rattle.repost_worker.proofs.Works.{turns-at_rest, clean-before}
use Rattle.repost_worker.proofs.RunLaws.{covered-idle, covered-full, covered-many}
use Rattle.repost_worker.proofs.FreshTurns.{fresh-turns, valued-turns, valued-since}

-- the history never loses an event
longer-turn : (history : List Deed) (build : Build) (turned : Turned) (history' : List Deed) (build' : Build)
    → IsTurnTo history build turned history' build' → length history ≤ length history'
longer-turn history build (Valued place) history' build' turn = omega (arith, ap length turn.0)
longer-turn history build (Fetched n) history' build' turn = omega (arith, ap length turn.3)
longer-turn history build (Published n) history' build' turn = omega (arith, ap length turn.4, length-append history (deed.Published n ∷ []))
longer-turn history build Idle history' build' turn = omega (arith, ap length turn.2)

longer-turns : (turns : List Turned) (history : List Deed) (build : Build) (history' : List Deed) (build' : Build)
    → AreTurnsTo turns history build history' build' → length history ≤ length history'
longer-turns [] history build history' build' run = omega (arith, ap length run.0)
longer-turns (turned ∷ turns) history build history' build' run =
    omega (arith, longer-turn history build turned run.0 run.1 run.2, longer-turns turns run.0 run.1 history' build' run.3)

-- and the build no record
kept-turn : (history : List Deed) (build : Build) (turned : Turned) (history' : List Deed) (build' : Build)
    → IsTurnTo history build turned history' build' → target_of build ≤ target_of build'
kept-turn history build (Valued place) history' build' turn = omega (arith, turn.1.target)
kept-turn history build (Fetched n) history' build' turn = omega (arith, turn.1.0, turn.4.target)
kept-turn history build (Published n) history' build' turn = omega (arith, turn.5.target)
kept-turn history build Idle history' build' turn = omega (arith, turn.3.target)

kept-turns : (turns : List Turned) (history : List Deed) (build : Build) (history' : List Deed) (build' : Build)
    → AreTurnsTo turns history build history' build' → target_of build ≤ target_of build'
kept-turns [] history build history' build' run = omega (arith, ap target_of run.1)
kept-turns (turned ∷ turns) history build history' build' run =
    omega (arith, kept-turn history build turned run.0 run.1 run.2, kept-turns turns run.0 run.1 history' build' run.3)

counted-turn : (history : List Deed) (build : Build) (turned : Turned) (history' : List Deed) (build' : Build)
    → IsTurnTo history build turned history' build' → turned ≢ Idle → length history' ≤ length history
    → turns_of build' ≡ turns_of build + 1
counted-turn history build (Valued place) history' build' turn more same = turn.1.turns
counted-turn history build (Fetched n) history' build' turn more same = turn.4.turns
counted-turn history build (Published n) history' build' turn more same =
    absurd (omega (arith, same, ap length turn.4, length-append history (deed.Published n ∷ [])))
counted-turn history build Idle history' build' turn more same = absurd (more refl)

-- where nothing is published and no turn is idle, each of them counts
counted-turns : (turns : List Turned) (history : List Deed) (build : Build) (history' : List Deed) (build' : Build)
    → AreTurnsTo turns history build history' build' → AreAtWork turns → length history' ≤ length history
    → turns_of build' ≡ turns_of build + length turns
counted-turns [] history build history' build' run at_work same = omega (arith, ap turns_of run.1)
counted-turns (turned ∷ turns) history build history' build' run at_work same =
    let first = longer-turn history build turned run.0 run.1 run.2 in
    let later = longer-turns turns run.0 run.1 history' build' run.3 in
    omega (
      arith,
      counted-turn history build turned run.0 run.1 run.2 (at_work turned (Contains-first turned turns)) (omega (arith, same, later)),
      counted-turns turns run.0 run.1 history' build' run.3 (λ t held. at_work t (Contains-later turned turns t held)) (omega (arith, same, first)),
    )

pub counted-run : (limit : ℕ) (history : List Deed) (build build' : Build) (steps steps' : ℕ) → covered history < accepted history
    → IsRun (Some limit) None history build steps history build' steps' → turns_of build' ≡ turns_of build + limit
counted-run limit history build build' steps steps' waits run =
    elim run.ended [
      | inl idle ↦ absurd (omega (arith, waits, covered-idle run.turns idle.before history build history run.last idle.last run.run))
      | inr full ↦
          let made : limit ≡ length run.turns = cc full.full in
          run.rest.turns ∙ counted-turns run.turns history build history run.last run.run full.at_work (omega arith) ∙ ap (λ (n : ℕ). turns_of build + n) (sym made)
    ]

few-counted : (history : List Deed) (build : Build) → IsWorkOf history build
    → turns_of build ≤ MAX_FETCHES * (made (records history) + 1)
few-counted history build work =
    let all = made (records history) in
    let front = made-front (records history) (target_of build) in
    omega (
      arith,
      work.of.built.counted.few.bound,
      mul-le-mul_left (fetches_of build) (let more : made (records_of history build) + 1 ≤ all + 1 = omega (arith, front) in more),
      mul-le-mul_left (all + 1) work.fetches,
      mul_comm (fetches_of build) (all + 1),
    )

-- a build that works on a book is in pace
pub in_pace-work : (book : BookState) (build : Build) → IsWorkOf book.history build → IsInPace (pace_of book build)
in_pace-work book build work =
    record {
      none = turns-at_rest book.history build work;
      covered = omega (arith, work.base, work.of.fetched);
      known = work.within;
      few = few-counted book.history build work;
    }

-- and a run of so many turns keeps the pace
pub in_pace-run : (limit : ℕ) (book book' : BookState) (build build' : Build) (steps steps' : ℕ) → IsWorkOf book.history build
    → IsRun (Some limit) None book.history build steps book'.history build' steps'
    → WorksInPace (pace_of book build) limit (pace_of book' build')
in_pace-run limit book book' build build' steps steps' work run =
    record {
      covers = covered-many limit book.history book'.history build build' steps steps' work run;
      waits =
          λ more same.
          counted-run limit book.history build build' steps steps' more
          (subst (λ (h : List Deed). IsRun (Some limit) None book.history build steps h build' steps') same run);
      fresh =
          λ more.
          omega (
            arith,
            fresh-turns run.turns book.history build book'.history run.last (omega (arith, work.base, work.of.fetched)) run.run more,
            run.within,
          );
      keeps = omega (arith, kept-turns run.turns book.history build book'.history run.last run.run, run.rest.target);
    }

-- so it does whatever the limit is said to be
pub in_pace-limit : (limit : Option ℕ) (stopped : Option KeepFault) (book book' : BookState) (build build' : Build) (steps steps' : ℕ)
    → IsWorkOf book.history build → IsRun limit stopped book.history build steps book'.history build' steps'
    → IfSome limit (λ n. stopped ≡ None → WorksInPace (pace_of book build) n (pace_of book' build'))
in_pace-limit None stopped book book' build build' steps steps' work run = tt
in_pace-limit (Some limit) stopped book book' build build' steps steps' work run = λ none.
    in_pace-run limit book book' build build' steps steps' work
    (subst (λ (s : Option KeepFault). IsRun (Some limit) s book.history build steps book'.history build' steps') none run)

-- turns that each did something keep the pace of as many as they are
module _ (turns : List Turned) (book book' : BookState) (build last build' : Build) (work : IsWorkOf book.history build)
    (run : AreTurnsTo turns book.history build book'.history last) (rest : IsUnchanged last build') (at_work : AreAtWork turns) where
  counted-still : book'.history ≡ book.history → turns_of build' ≡ turns_of build + length turns
  counted-still same =
      rest.turns ∙ counted-turns turns book.history build book'.history last run at_work (omega (arith, ap length same))

  works-turns : WorksInPace (pace_of book build) (length turns) (pace_of book' build')
  works-turns = record {
    covers = covered-full turns book.history build book'.history last work run at_work;
    waits = λ more same. counted-still same;
    fresh = fresh-turns turns book.history build book'.history last (omega (arith, work.base, work.of.fetched)) run;
    keeps = omega (arith, kept-turns turns book.history build book'.history last run, rest.target);
  }

-- a run of which a turn was refused keeps the pace of those that were made
stops-run : (fault : KeepFault) (limit : Option ℕ) (book book' : BookState) (build build' : Build) (steps steps' : ℕ)
    → IsWorkOf book.history build → IsRun limit (Some fault) book.history build steps book'.history build' steps'
    → (fault ≡ Failed → CanPublish book'.history build') → StopsInPace fault (pace_of book build) limit (pace_of book' build')
stops-run fault limit book book' build build' steps steps' work run can =
    let refused : AreUntilRefused limit run.turns = run.ended in
    record {
      made = length run.turns;
      fewer = refused.more;
      works = works-turns run.turns book book' build run.last build' work run.run run.rest refused.at_work;
      counts = counted-still run.turns book book' build run.last build' work run.run run.rest refused.at_work;
      due = λ failed. (can failed).2;
      valued =
          λ failed more.
          valued-turns run.turns book.history build book'.history run.last (omega (arith, work.base, work.of.fetched)) run.run
          (clean-before book'.history run.last build' run.rest (can failed).0) (omega (arith, more, run.rest.target));
      since =
          λ failed.
          elim (valued-since run.turns book.history build book'.history run.last run.run refused.at_work
          (clean-before book'.history run.last build' run.rest (can failed).0) (omega (arith, (can failed).2, run.rest.target))) [
            | inl same ↦ inl same
            | inr made ↦ inr (omega (arith, made, run.rest.turns))
          ];
    }

-- so it does whatever the refusal is said to be
pub stops-limit : (stopped : Option KeepFault) (limit : Option ℕ) (book book' : BookState) (build build' : Build) (steps steps' : ℕ)
    → IsWorkOf book.history build → IsRun limit stopped book.history build steps book'.history build' steps'
    → IfSome stopped (λ fault. fault ≡ Failed → CanPublish book'.history build')
    → IfSome stopped (λ fault. StopsInPace fault (pace_of book build) limit (pace_of book' build'))
stops-limit None limit book book' build build' steps steps' work run can = tt
stops-limit (Some fault) limit book book' build build' steps steps' work run can =
    stops-run fault limit book book' build build' steps steps' work run can

-- ---- where nothing is published

-- no more is covered than was accepted
covered-within : (journal : List Record) (n : ℕ) (history : List Deed) → IsLegalAfter journal n history → n ≤ length journal
    → covered_after n history ≤ length journal + length (records history)
covered-within journal n [] legal within = omega (arith, within)
covered-within journal n (deed.Kept item ∷ history) legal within =
    let more = length-append journal (item ∷ []) in
    let later = covered-within (journal ++ item ∷ []) n history legal.1 (omega (arith, within, more)) in
    omega (arith, later, more)
covered-within journal n (deed.Published m ∷ history) legal within = covered-within journal m.0 history legal.2 legal.1

-- a worker that is at rest is in pace
pub in_pace-rest : (pace : Pace) → IsAtRest pace → IsLegal pace.history → IsInPace pace
in_pace-rest pace rest legal =
    let within = covered-within [] 0 pace.history legal (omega arith) in
    record {
      none = λ same. rest.turns;
      covered = omega (arith, rest.known);
      known = omega (arith, rest.known, within);
      few = omega (arith, rest.turns);
    }

-- one that is in pace stays so where records alone are kept
module _ (old new : Pace) (keeps : KeepsAlone old.history new.history) where
  records-alone : records new.history ≡ records old.history ++ keeps.0
  records-alone =
      ap records keeps.1 ∙ records-append old.history (map deed.Kept keeps.0)
      ∙ ap (λ (items : List Record). records old.history ++ items) (records-kept keeps.0)

  pub covered-alone : covered new.history ≡ covered old.history
  covered-alone =
      ap covered keeps.1 ∙ covered_after-append 0 old.history (map deed.Kept keeps.0) ∙ covered-kept (covered old.history) keeps.0

  movements-alone : movements_of old.history ≤ movements_of new.history
  movements-alone =
      let front = made-front (records new.history) (accepted old.history) in
      let is : take (accepted old.history) (records new.history) ≡ records old.history =
      ap (take (accepted old.history)) records-alone ∙ take-front (records old.history) keeps.0 in
      omega (arith, front, ap (λ (items : List Record). made items) is)

  pub in_pace-alone : IsInPace old → IsSamePace old new → IsInPace new
  in_pace-alone pace same =
      let fewer : movements_of old.history + 1 ≤ movements_of new.history + 1 = omega (arith, movements-alone) in
      record {
        none = λ is. same.turns ∙ pace.none (sym same.known ∙ is ∙ covered-alone);
        covered = omega (arith, covered-alone, pace.covered, same.known);
        known =
            omega (arith, same.known, pace.known, ap length records-alone, length-append (records old.history) keeps.0);
        few = omega (arith, same.turns, pace.few, mul-le-mul_left MAX_FETCHES fewer);
      }

-- ---- how many movements come after some records

-- the later the records, the fewer movements
filter-cons : (n : ℕ) (e : Entry) (es : List Entry) (b : Bool) → is_new n e ≡ b
    → length (filter (is_new n) (e ∷ es)) ≡ cond b (length (filter (is_new n) es) + 1) (length (filter (is_new n) es))
filter-cons n e es true is = rw is (omega arith)
filter-cons n e es false is = rw is refl

fewer-cons : (a b k l : ℕ) (later early : Bool) → k ≤ l → (later ≡ true → early ≡ true)
    → a ≡ cond later (k + 1) k → b ≡ cond early (l + 1) l → a ≤ b
fewer-cons a b k l true true less more first second = omega (arith, less, first, second)
fewer-cons a b k l true false less more first second = let clash : false ≡ true = more refl in absurd cc
fewer-cons a b k l false true less more first second = omega (arith, less, first, second)
fewer-cons a b k l false false less more first second = omega (arith, less, first, second)

new-earlier : (n m : ℕ) (e : Entry) → n ≤ m → is_new m e ≡ true → is_new n e ≡ true
new-earlier n m e low later = grind (arith, nat_tests, low, later)

fewer-later : (n m : ℕ) (line : List Entry) → n ≤ m → length (filter (is_new m) line) ≤ length (filter (is_new n) line)
fewer-later n m [] low = omega arith
fewer-later n m (e ∷ es) low =
    fewer-cons (length (filter (is_new m) (e ∷ es))) (length (filter (is_new n) (e ∷ es))) (length (filter (is_new m) es))
    (length (filter (is_new n) es)) (is_new m e) (is_new n e) (fewer-later n m es low) (new-earlier n m e low)
    (filter-cons m e es (is_new m e) refl) (filter-cons n e es (is_new n e) refl)

pub movements_after-later : (n m : ℕ) (history : List Deed) → n ≤ m → movements_after m history ≤ movements_after n history
movements_after-later n m history low = fewer-later n m (posting_line (records history)) low
