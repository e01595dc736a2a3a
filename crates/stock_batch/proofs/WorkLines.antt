-- How many turns the worker makes over lines, and what it has taken in.
use Rattle.std.proofs.Common.{◌≡◌, ◌⊎◌, ℕ, ◌+◌, ◌*◌, ◌<◌, ◌≤◌, false, List, [], ◌∷◌, ◌++◌, map, Option, None, Some, Ok, Err, inl, inr, sym, ap, ◌∙◌, subst, append-nil, arith}
use Rattle.std.specs.Prelude.{All, MatchOption}
use Rattle.std.proofs.lemmas.Bool.{cases_lt}
use Rattle.std.proofs.lemmas.List.{append_cancel_left}
use Rattle.std.proofs.lemmas.List.Elements.{All-head, All-tail}
use Rattle.stock_model.specs.History.{records, accepted, covered}
use Rattle.stock_model.specs.PostReplies.{refusal, TellsStoreFailed, IsAccepted}
use Rattle.stock_model.specs.Faults.{fault}
use Rattle.stock_model.specs.Run.{ArePublications, Works, IsAnswerTo}
use Rattle.stock_model.specs.declared.answers.Answer.{Answer}
use Rattle.stock_model.specs.declared.answers.Answer.TheVariants.{Told}
use Rattle.stock_model.specs.declared.deeds.Deed.{Deed}
use Rattle.stock_model.specs.declared.deeds.Deed.TheVariants.{Kept}
use Rattle.stock_model.specs.declared.faults.PostFault.{PostFault}
use Rattle.stock_model.specs.declared.records.Record.{Record}
use Rattle.stock_model.specs.declared.replies.Reply.TheVariants.{Worked, StoreFailed}
use Rattle.stock_model.specs.declared.requests.Request.{Request}
use Rattle.stock_model.specs.declared.requests.Request.TheVariants.{Post, Work, Settle, Report}
use Rattle.repost_worker.specs.Paces.{Pace, movements_of, movements_after, IsInPace, IsAtRest, IsSamePace, WorksInPace}
use Rattle.repost_worker.specs.Published.{KeepsAlone}
use Rattle.repost_worker.proofs.Paces.{in_pace-alone, movements_after-later}
use Rattle.voucher_json.specs.Requests.{IsReadAs}
use Rattle.voucher_json.proofs.OneReading.{one_reading}
use Rattle.stock_batch.specs.Paces.{KeepsPace, PacedRun}
use Rattle.stock_batch.specs.WorkLines.{IsLineAnswered, AsksForTurns, IsWithoutTurns, AsksForNoTurns, CountsFor, CountTogether}

-- ---- one line

none-published : (more : List Deed) (items : List Record) → ArePublications more → more ≡ map Kept items → more ≡ []
none-published more [] are is = is
none-published more (item ∷ items) are is = absurd (subst ArePublications is are)

-- where publications alone and records alone came, nothing came
nothing-came : (old new more : List Deed) → ArePublications more → new ≡ old ++ more → KeepsAlone old new → new ≡ old
nothing-came old new more are grows keeps =
    grows ∙ ap (λ (deeds : List Deed). old ++ deeds)
    (none-published more keeps.0 are (append_cancel_left old more (map Kept keeps.0) (sym grows ∙ keeps.1)))
    ∙ append-nil old

keeps-none : (old new : List Deed) → new ≡ old → KeepsAlone old new
keeps-none old new same = ([], same ∙ sym (append-nil old))

-- an answer to a post keeps its record or nothing
keeps-post : (old new : List Deed) (item : Record) (answer : Answer) (found : Option PostFault)
    → MatchOption found (IsAccepted old item answer new ⊎ (TellsStoreFailed answer × (new ≡ old)))
    (λ f. (answer ≡ refusal (records old) f) × (new ≡ old)) → KeepsAlone old new
keeps-post old new item answer None (inl kept) = (item ∷ [], kept.1)
keeps-post old new item answer None (inr failed) = keeps-none old new failed.1
keeps-post old new item answer (Some f) refused = keeps-none old new refused.1

module _ (old : Pace) (line : List ℕ) (answer : Answer) (new : Pace) (step : IsLineAnswered old line answer new) where
  -- a line that asks for turns works
  works-line : (turns : ℕ) → AsksForTurns line turns → Works old.history answer new.history
  works-line turns asks = elim step.step [
    | inl long ↦ absurd (omega (arith, long.0, asks.short))
    | inr short ↦ elim short.1 [
      | inl is ↦
          let same : Ok is.0 ≡ Ok (Work turns) = one_reading false line (Ok is.0) (Ok (Work turns)) is.1 asks.read in
          let work : is.0 ≡ Work turns = cc same in
          subst (λ (request : Request). IsAnswerTo old.history request answer new.history) work is.2
      | inr bad ↦
          let clash : Err bad.0 ≡ Ok (Work turns) = one_reading false line (Err bad.0) (Ok (Work turns)) bad.1 asks.read in
          absurd cc
    ]
  ]

  -- what a line that asks for turns comes to, unless the store failed
  works-asked : (turns : ℕ) → AsksForTurns line turns → (TellsStoreFailed answer → ⊥) → WorksInPace old turns new
  works-asked turns asks told = (step.keeps asks.short (Work turns) asks.read).0 told

  pub covers-line : (turns : ℕ) → AsksForTurns line turns → (TellsStoreFailed answer → ⊥) → 2 * movements_of old.history + 3 ≤ turns
      → covered new.history ≡ accepted new.history
  covers-line turns asks told many = (works-asked turns asks told).covers many

  -- what it had not taken in is covered only where each of its movements is valued, also where the store failed
  fresh-line : (turns : ℕ) → AsksForTurns line turns → old.known < covered new.history
      → movements_after old.known old.history + 2 ≤ turns
  fresh-line turns asks more =
      let keeps = step.keeps asks.short (Work turns) asks.read in
      elim (works-line turns asks).told [
        | inl worked ↦
            (keeps.0 (λ failed. let clash : Told (Worked (record { 0 = covered new.history })) [] ≡ Told StoreFailed [] = sym worked ∙ failed in absurd cc)).fresh more
        | inr failed ↦
            let stops = keeps.1 failed in
            let few : stops.made < turns = stops.fewer in
            omega (arith, stops.works.fresh more, few)
      ]

  -- one that asks for none leaves the pace
  same-request : (request : Request) → KeepsPace old request answer new → IsWithoutTurns request → IsSamePace old new
  same-request (Post what) keeps none = keeps
  same-request (Work turns) keeps none = absurd none
  same-request Settle keeps none = absurd none
  same-request (Report query) keeps none = keeps

  same-line : AsksForNoTurns line → IsSamePace old new
  same-line none = elim step.step [
    | inl long ↦ step.long long.0
    | inr short ↦ elim short.1 [
      | inl is ↦ same-request is.0 (step.keeps short.0 is.0 is.1) (none is.0 is.1)
      | inr bad ↦ step.bad short.0 bad.0 bad.1
    ]
  ]

  -- a line keeps who is in pace in pace
  pace-request : (request : Request) → IsInPace old → KeepsPace old request answer new → IsAnswerTo old.history request answer new.history → IsInPace new
  pace-request (Post what) pace keeps is =
      in_pace-alone old new
      (keeps-post old.history new.history is.0 answer (fault (records old.history) is.0) is.2.answers) pace keeps
  pace-request (Work turns) pace keeps is = keeps.2
  pace-request Settle pace keeps is = keeps.1
  pace-request (Report query) pace keeps is = in_pace-alone old new (keeps-none old.history new.history is.1) pace keeps

  pace-line : IsInPace old → IsInPace new
  pace-line pace = elim step.step [
    | inl long ↦ in_pace-alone old new (keeps-none old.history new.history long.2) pace (step.long long.0)
    | inr short ↦ elim short.1 [
      | inl is ↦ pace-request is.0 pace (step.keeps short.0 is.0 is.1) is.2
      | inr bad ↦ in_pace-alone old new (keeps-none old.history new.history bad.3) pace (step.bad short.0 bad.0 bad.1)
    ]
  ]

  -- where nothing is published, no turn is lost
  module _ (pace : IsInPace old) (keeps : KeepsAlone old.history new.history) where
    -- all that was accepted was covered, so there were none
    none-made : covered old.history ≡ accepted old.history → old.turns ≤ new.turns
    none-made all = omega (arith, pace.none (omega (arith, pace.covered, pace.known, all)))

    kept-works : (turns : ℕ) → new.history ≡ old.history → WorksInPace old turns new → old.turns ≤ new.turns
    kept-works turns same works = elim (cases_lt (covered old.history) (accepted old.history)) [
      | inl waits ↦ omega (arith, works.waits waits same)
      | inr none ↦ none-made (omega (arith, none, pace.covered, pace.known))
    ]

    kept-request : (request : Request) → KeepsPace old request answer new → IsAnswerTo old.history request answer new.history
        → old.turns ≤ new.turns
    kept-request (Post what) same is = omega (arith, same.turns)
    kept-request (Work turns) paced is =
        let same = nothing-came old.history new.history is.more is.publications is.grows keeps in
        elim is.told [
          | inl worked ↦
              kept-works turns same
              (paced.0 (λ failed. let clash : Told (Worked (record { 0 = covered new.history })) [] ≡ Told StoreFailed [] = sym worked ∙ failed in absurd cc))
          | inr failed ↦ omega (arith, (paced.1 failed).counts same)
        ]
    kept-request Settle paced is =
        let same = nothing-came old.history new.history is.more is.publications is.grows keeps in
        elim is.told [
          | inl settled ↦ none-made (sym (ap covered same) ∙ settled.0 ∙ ap accepted same)
          | inr failed ↦ omega (arith, (paced.0 failed).counts same)
        ]
    kept-request (Report query) same is = omega (arith, same.turns)

    kept-line : old.turns ≤ new.turns
    kept-line = elim step.step [
      | inl long ↦ omega (arith, (step.long long.0).turns)
      | inr short ↦ elim short.1 [
        | inl is ↦ kept-request is.0 (step.keeps short.0 is.0 is.1) is.2
        | inr bad ↦ omega (arith, (step.bad short.0 bad.0 bad.1).turns)
      ]
    ]

    -- and those count that are asked for
    counted-line : (turns : ℕ) → CountsFor old line answer turns → old.turns + turns ≤ new.turns
    counted-line turns (inl none) = omega (arith, none, kept-line)
    counted-line turns (inr asks) =
        let is = works-line turns asks.0 in
        let same = nothing-came old.history new.history is.more is.publications is.grows keeps in
        omega (arith, (works-asked turns asks.0 asks.2).waits asks.1 same)

-- ---- many lines

pub pace-lines : (old new : Pace) (lines : List (List ℕ)) (answers : List Answer) → IsInPace old
    → PacedRun (IsReadAs false) old lines answers new → IsInPace new
pace-lines old new [] [] pace run = subst IsInPace (sym run) pace
pace-lines old new [] (answer ∷ answers) pace run = absurd run
pace-lines old new (line ∷ lines) [] pace run = absurd run
pace-lines old new (line ∷ lines) (answer ∷ answers) pace run =
    pace-lines run.0 new lines answers (pace-line old line answer run.0 run.1 pace) run.2

-- how many turns were made, by a worker in pace
pub record IsCounted (old new : Pace) (turns : ℕ) : Type 0 where
  pub pace : IsInPace new
  pub made : old.turns + turns ≤ new.turns

counted-lines : (old new : Pace) (lines : List (List ℕ)) (answers : List Answer) (turns : ℕ) → IsInPace old
    → CountTogether old lines answers new turns → IsCounted old new turns
counted-lines old new [] [] turns pace run =
    record { pace = subst IsInPace (sym run.0) pace; made = omega (arith, run.1, ap (λ (p : Pace). p.turns) run.0) }
counted-lines old new [] (answer ∷ answers) turns pace run = absurd run
counted-lines old new (line ∷ lines) [] turns pace run = absurd run
counted-lines old new (line ∷ lines) (answer ∷ answers) turns pace run =
    let first = counted-line old line answer run.0 run.1 pace run.2 run.3 run.4 in
    let rest = counted-lines run.0 new lines answers run.5 (pace-line old line answer run.0 run.1 pace) run.6 in
    record { pace = rest.pace; made = omega (arith, first, rest.made, run.7) }

few-counted : (pace : Pace) → IsInPace pace → pace.turns ≤ 4 * movements_of pace.history + 4
few-counted pace in_pace =
    let few : pace.turns ≤ 4 * (movements_of pace.history + 1) = in_pace.few in
    omega (arith, few)

pub few-lines : (old new : Pace) (lines : List (List ℕ)) (answers : List Answer) (turns : ℕ) → IsInPace old
    → CountTogether old lines answers new turns → turns ≤ 4 * movements_of new.history + 4
few-lines old new lines answers turns pace run =
    let counted = counted-lines old new lines answers turns pace run in
    omega (arith, counted.made, few-counted new counted.pace)

pub publishes-line : (old mid new : Pace) (lines : List (List ℕ)) (answers : List Answer) (before turns : ℕ) (line : List ℕ) (answer : Answer)
    → IsInPace old → CountTogether old lines answers mid before → IsLineAnswered mid line answer new → AsksForTurns line turns
    → covered mid.history < accepted mid.history → (TellsStoreFailed answer → ⊥) → 4 * movements_of mid.history + 5 ≤ before + turns
    → KeepsAlone mid.history new.history → ⊥
publishes-line old mid new lines answers before turns line answer pace run step asks waits told many keeps =
    let counted = counted-lines old mid lines answers before pace run in
    let last = counted-line mid line answer new step counted.pace keeps turns (inr (asks, waits, told)) in
    let is = works-line mid line answer new step turns asks in
    let same = nothing-came mid.history new.history is.more is.publications is.grows keeps in
    let few = few-counted new (pace-line mid line answer new step counted.pace) in
    absurd (omega (arith, many, counted.made, last, few, ap movements_of same))

-- ---- fresh records

same-lines : (old new : Pace) (lines : List (List ℕ)) (answers : List Answer) → PacedRun (IsReadAs false) old lines answers new
    → All AsksForNoTurns lines → new.known ≡ old.known
same-lines old new [] [] run none = ap (λ (p : Pace). p.known) run
same-lines old new [] (answer ∷ answers) run none = absurd run
same-lines old new (line ∷ lines) [] run none = absurd run
same-lines old new (line ∷ lines) (answer ∷ answers) run none =
    same-lines run.0 new lines answers run.2 (All-tail AsksForNoTurns line lines none)
    ∙ (same-line old line answer run.0 run.1 (All-head AsksForNoTurns line lines none)).known

-- records after the first n ones, which the worker had not taken in
fresh-lines : (n : ℕ) (old mid new : Pace) (lines : List (List ℕ)) (answers : List Answer) (line : List ℕ) (answer : Answer) (turns : ℕ)
    → old.known ≤ n → PacedRun (IsReadAs false) old lines answers mid → All AsksForNoTurns lines → IsLineAnswered mid line answer new
    → AsksForTurns line turns → n < covered new.history → movements_after n mid.history + 2 ≤ turns
fresh-lines n old mid new lines answers line answer turns low run none step asks more =
    let same = same-lines old mid lines answers run none in
    let known : mid.known ≤ n = omega (arith, same, low) in
    let fresh = fresh-line mid line answer new step turns asks (omega (arith, known, more)) in
    omega (arith, fresh, movements_after-later mid.known n mid.history known)

pub fresh-since_turns : (old mid new : Pace) (lines : List (List ℕ)) (answers : List Answer) (line : List ℕ) (answer : Answer) (turns : ℕ)
    → IsInPace old → PacedRun (IsReadAs false) old lines answers mid → All AsksForNoTurns lines → IsLineAnswered mid line answer new
    → AsksForTurns line turns → accepted old.history < covered new.history → movements_after (accepted old.history) mid.history + 2 ≤ turns
fresh-since_turns old mid new lines answers line answer turns pace run none step asks more =
    fresh-lines (accepted old.history) old mid new lines answers line answer turns pace.known run none step asks more

pub fresh-since_opening : (first mid new : Pace) (lines : List (List ℕ)) (answers : List Answer) (line : List ℕ) (answer : Answer) (turns : ℕ)
    → IsAtRest first → PacedRun (IsReadAs false) first lines answers mid → All AsksForNoTurns lines → IsLineAnswered mid line answer new
    → AsksForTurns line turns → covered first.history < covered new.history
    → movements_after (covered first.history) mid.history + 2 ≤ turns
fresh-since_opening first mid new lines answers line answer turns rest run none step asks more =
    fresh-lines (covered first.history) first mid new lines answers line answer turns (omega (arith, rest.known)) run none step asks more
