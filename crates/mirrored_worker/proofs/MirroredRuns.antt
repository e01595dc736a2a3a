-- A worker's run beside a mirror so far, turn by turn.
use Rattle.std.proofs.Common.{◌≡◌, ℕ, ◌+◌, ◌^◌, ◌<◌, ◌≤◌, ⊎_elim, List, [], ◌∷◌, ◌++◌, length, sum_by, Option, Some, None, Result, Ok, Err, inl, inr, refl, sym, ap, ◌∙◌, subst, append-nil, append_assoc, arith}
use Rattle.std.specs.Prelude.{All}
use Rattle.std.specs.Option.{option_map}
use Rattle.std.proofs.lemmas.List.{map-append}
use Rattle.std.proofs.lemmas.List.Elements.{All-head, All-tail}
use Rattle.std.proofs.lemmas.List.Sums.{sum_by-append}
use Rattle.stock_model.specs.declared.deeds.Deed.{Deed}
use Rattle.stock_model.specs.declared.records.Record.{Record}
use Rattle.stock_keeper.specs.declared.fault.KeepFault.{KeepFault}
use Rattle.stock_keeper.specs.declared.fault.KeepFault.TheVariants.{NoMemory}
use Rattle.turn_lock.specs.declared.view.View.{View}
use Rattle.repost_build.specs.declared.build.Build.{Build}
use Rattle.repost_worker.specs.declared.turn.Turned.{Turned}
use Rattle.repost_worker.specs.declared.turn.Turned.TheVariants.{Valued, Fetched, Published, Idle}
use Rattle.locked_worker.specs.GatedRuns.{IsTurnWith, AreTurnsWith, PublishesNothing, valuations_with, Answers, goes_on, Answered}
use Rattle.locked_worker.specs.declared.gate.Go.TheVariants.{Work, Stop}
use Rattle.locked_worker.proofs.AfterStops.{unchanged-self}
use Rattle.mirrored_worker.specs.Looks.{IsLook}
use Rattle.mirrored_worker.specs.MirroredRuns.{IsShowing, StaysShown, IsShownAfter, IsTurnShown, AreTurnsShown, IsMirroredRun}

-- one more turn
turns-more : (results : List (Result Turned KeepFault)) (old : View Deed) (build : Build) (shown : List Record) (mid : View Deed) (then : Build)
    (now : List Record) (r : Result Turned KeepFault) (new : View Deed) (build' : Build) (shown' : List Record)
    → AreTurnsShown results old build shown mid then now → length mid.stops < 2 ^ 57 → IsTurnShown r mid then now new build' shown'
    → AreTurnsShown (results ++ r ∷ []) old build shown new build' shown'
turns-more [] old build shown mid then now r new build' shown' run few turn = (
  subst (λ (v : View Deed). length v.stops < 2 ^ 57) run.0 few,
  (
    new,
    build',
    shown',
    subst (λ (z : View Deed × Build × List Record). IsTurnShown r z.0 z.1 z.2 new build' shown') (λ i. (run.0 i, run.1 i, run.2 i)) turn,
    (refl, refl, refl),
  ),
)
turns-more (first ∷ results) old build shown mid then now r new build' shown' run few turn = (
  run.0,
  (
    run.1.0,
    run.1.1,
    run.1.2,
    run.1.3,
    turns-more results run.1.0 run.1.1 run.1.2 mid then now r new build' shown' run.1.4 few turn,
  ),
)

answered-none : (told : Option Answers) → Answered [] told told
answered-none None = refl
answered-none (Some answers) = ap Some (sym (append-nil answers))

answered-more : (first second : Answers) (old mid new : Option Answers) → Answered first old mid → Answered second mid new
    → Answered (first ++ second) old new
answered-more first second None mid new one other = other ∙ ap (option_map (λ (a : Answers). a ++ second)) one
answered-more first second (Some answers) mid new one other =
    other ∙ ap (option_map (λ (a : Answers). a ++ second)) one ∙ ap Some (append_assoc answers first second)

-- turns were made, and this was the result of the last one
pub record IsUnderWay (old : View Deed) (build : Build) (shown : List Record) (steps : ℕ) (told : Option Answers) (last : Result Turned KeepFault)
    (mid : View Deed) (then : Build) (now : List Record) (made_steps : ℕ) (told' : Option Answers) : Type 0 where
  pub results : List (Result Turned KeepFault)
  pub turns : AreTurnsShown results old build shown mid then now
  pub valued : made_steps ≡ steps + sum_by valuations_with results
  pub before : List (Result Turned KeepFault)
  pub given : Ok Idle ∷ results ≡ before ++ last ∷ []
  pub answered : Answered (goes_on before) told told'

pub starts : (old : View Deed) (build : Build) (shown : List Record) (steps : ℕ) (told : Option Answers)
    → IsUnderWay old build shown steps told (Ok Idle) old build shown steps told
starts old build shown steps told =
    record { results = []; turns = (refl, refl, refl); valued = omega arith; before = []; given = refl; answered = answered-none told }

module _ (old : View Deed) (build : Build) (shown : List Record) (steps : ℕ) (told : Option Answers) (last : Result Turned KeepFault)
    (mid : View Deed) (then : Build) (now : List Record) (made_steps : ℕ) (told' : Option Answers)
    (way : IsUnderWay old build shown steps told last mid then now made_steps told') where
  -- the gate let one more turn be made
  pub goes-on : (r : Result Turned KeepFault) (new : View Deed) (build' : Build) (shown' : List Record) (steps' : ℕ) (asked : Option Answers)
      → length mid.stops < 2 ^ 57 → Answered ((last, Work) ∷ []) told' asked → IsTurnShown r mid then now new build' shown'
      → steps' ≡ made_steps + valuations_with r → IsUnderWay old build shown steps told r new build' shown' steps' asked
  goes-on r new build' shown' steps' asked few go turn valued = record {
    results = way.results ++ r ∷ [];
    turns = turns-more way.results old build shown mid then now r new build' shown' way.turns few turn;
    valued = omega (arith, valued, way.valued, sum_by-append valuations_with way.results (r ∷ []));
    before = way.before ++ last ∷ [];
    given = ap (λ (rs : List (Result Turned KeepFault)). rs ++ r ∷ []) way.given;
    answered = subst (λ (more : Answers). Answered more told asked)
        (sym (map-append (λ (result : Result Turned KeepFault). (result, Work)) way.before (last ∷ [])))
        (answered-more (goes_on way.before) ((last, Work) ∷ []) told told' asked way.answered go);
  }

  -- the gate said to stop
  pub is-stopped : (asked : Option Answers) → length mid.stops < 2 ^ 57 → Answered ((last, Stop) ∷ []) told' asked
      → IsMirroredRun old build shown steps told mid then now made_steps asked
  is-stopped asked few stop = record {
    results = way.results;
    turns = way.turns;
    valued = way.valued;
    before = way.before;
    last = last;
    given = way.given;
    ended = inl (answered-more (goes_on way.before) ((last, Stop) ∷ []) told told' asked way.answered stop, few);
  }

  -- the pass had all its turns
  pub is-full : 2 ^ 57 ≤ length mid.stops → IsMirroredRun old build shown steps told mid then now made_steps told'
  is-full full = record {
    results = way.results;
    turns = way.turns;
    valued = way.valued;
    before = way.before;
    last = last;
    given = way.given;
    ended = inr (way.answered, full);
  }

-- ---- turns without a mirror

-- a look leaves what a turn leaves that was refused for want of memory
look-refused : (old new : View Deed) (build : Build) → IsLook old new → IsTurnWith old build (Err NoMemory) new build
look-refused old new build look = (
  record { taken = look.taken; stop = look.stop; no_less = omega (arith, look.no_fault); failed = λ failed few. absurd cc },
  unchanged-self build,
)

-- turns without a mirror lead there too
pub record Leads (old : View Deed) (build : Build) (new : View Deed) (build' : Build) : Type 0 where
  pub results : List (Result Turned KeepFault)
  pub turns : AreTurnsWith results old build new build'

leads-from : (r : Result Turned KeepFault) (old : View Deed) (build : Build) (mid : View Deed) (then : Build) (new : View Deed) (build' : Build)
    → length old.stops < 2 ^ 57 → IsTurnWith old build r mid then → Leads mid then new build' → Leads old build new build'
leads-from r old build mid then new build' few turn rest =
    record { results = r ∷ rest.results; turns = (few, (mid, then, turn, rest.turns)) }

leads-after : (r : Result Turned KeepFault) (old : View Deed) (shown : List Record) (mid : View Deed) (shown' : List Record) (build : Build)
    (new : View Deed) (build' : Build) → IsShownAfter r old shown mid shown' → Leads mid build new build' → Leads old build new build'
leads-after (Ok (Valued place)) old shown mid shown' build new build' shows rest = subst (λ (v : View Deed). Leads v build new build') shows.0 rest
leads-after (Ok (Fetched n)) old shown mid shown' build new build' shows rest = subst (λ (v : View Deed). Leads v build new build') shows.0 rest
leads-after (Ok (Published n)) old shown mid shown' build new build' shows rest =
    ⊎_elim
    (λ (few : (length old.stops < 2 ^ 57) × IsShowing old shown mid shown').
    leads-from (Err NoMemory) old build mid build new build' few.0 (look-refused old mid build few.1.look) rest)
    (λ (full : (2 ^ 57 ≤ length old.stops) × StaysShown old shown mid shown'). subst (λ (v : View Deed). Leads v build new build') full.1.0 rest)
    shows
leads-after (Ok Idle) old shown mid shown' build new build' shows rest = subst (λ (v : View Deed). Leads v build new build') shows.0 rest
leads-after (Err fault) old shown mid shown' build new build' shows rest = subst (λ (v : View Deed). Leads v build new build') shows.0 rest

pub leads-shown : (results : List (Result Turned KeepFault)) (old : View Deed) (build : Build) (shown : List Record) (new : View Deed) (build' : Build)
    (shown' : List Record) → AreTurnsShown results old build shown new build' shown' → Leads old build new build'
leads-shown [] old build shown new build' shown' run = record { results = []; turns = (run.0, run.1) }
leads-shown (r ∷ results) old build shown new build' shown' run =
    let one : IsTurnShown r old build shown run.1.0 run.1.1 run.1.2 = run.1.3 in
    leads-from r old build one.mid run.1.1 new build' run.0 one.turn
    (leads-after r one.mid shown run.1.0 run.1.2 run.1.1 new build' one.shows
    (leads-shown results run.1.0 run.1.1 run.1.2 new build' shown' run.1.4))

-- a turn that published nothing is followed by no look
stays-shown : (r : Result Turned KeepFault) (old : View Deed) (shown : List Record) (new : View Deed) (shown' : List Record) → PublishesNothing r
    → IsShownAfter r old shown new shown' → StaysShown old shown new shown'
stays-shown (Ok (Valued place)) old shown new shown' none shows = shows
stays-shown (Ok (Fetched n)) old shown new shown' none shows = shows
stays-shown (Ok (Published n)) old shown new shown' none shows = absurd none
stays-shown (Ok Idle) old shown new shown' none shows = shows
stays-shown (Err fault) old shown new shown' none shows = shows

-- so until something is published turns are as without a mirror
pub before-published : (results : List (Result Turned KeepFault)) (old : View Deed) (build : Build) (shown : List Record) (new : View Deed)
    (build' : Build) (shown' : List Record) → AreTurnsShown results old build shown new build' shown' → All PublishesNothing results
    → AreTurnsWith results old build new build' × (shown' ≡ shown)
before-published [] old build shown new build' shown' run none = ((run.0, run.1), run.2)
before-published (r ∷ results) old build shown new build' shown' run none =
    let one : IsTurnShown r old build shown run.1.0 run.1.1 run.1.2 = run.1.3 in
    let stays = stays-shown r one.mid shown run.1.0 run.1.2 (All-head PublishesNothing r results none) one.shows in
    let rest = before-published results run.1.0 run.1.1 run.1.2 new build' shown' run.1.4 (All-tail PublishesNothing r results none) in (
      (run.0, (run.1.0, run.1.1, subst (λ (v : View Deed). IsTurnWith old build r v run.1.1) (sym stays.0) one.turn, rest.0)),
      rest.1 ∙ stays.1,
    )
