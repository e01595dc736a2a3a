-- How many turns may come until there is nothing to do.
use Rattle.std.proofs.Common.{◌≡◌, ◌≢◌, ℕ, ◌+◌, ◌*◌, ◌<◌, ◌≤◌, Bool, true, false, cond, nat_lt, if◌then◌else◌, List, [], ◌∷◌, ◌++◌, length, take, drop, Some, Contains, inl, inr, refl, sym, ap, ◌∙◌, subst, arith}
use Rattle.std.proofs.lemmas.Bool.{false≢true}
use Rattle.std.proofs.lemmas.Bool.Decides.{nat_tests}
use Rattle.std.proofs.lemmas.List.{take-append-drop}
use Rattle.stock_nums.specs.Places.{is_before}
use Rattle.stock_nums.specs.declared.entry.Entry.{Entry}
use Rattle.stock_nums.specs.declared.numbers.RecordNo.{RecordNo}
use Rattle.stock_nums.specs.declared.place.Place.{Place}
use Rattle.stock_nums.proofs.PlaceOrder.{is_before-irreflexive, is_before-asymmetric}
use Rattle.stock_model.specs.History.{records, accepted, covered}
use Rattle.stock_model.specs.InOrder.{IsBefore}
use Rattle.stock_model.specs.LandedCost.{added}
use Rattle.stock_model.specs.PostingOrder.{posting_line}
use Rattle.stock_model.specs.declared.deeds.Deed.{Deed}
use Rattle.stock_model.specs.declared.deeds.Deed.TheVariants as deed
use Rattle.stock_model.specs.declared.records.Record.{Record}
use Rattle.stock_model.proofs.Pairwise.{Pairwise, Pairwise-from_AllPairs, Precedes-Contains, Contains-cases, Contains-first, Contains-later}
use Rattle.stock_laws.proofs.PostingLine.{IsInPostingOrder-posting_line}
use Rattle.repost_laws.specs.Builds.{Suspects, IsClean, AreAhead}
use Rattle.repost_laws.specs.WholeBuilds.{made}
use Rattle.repost_laws.proofs.MadeEntries.{length-line-made, made-grows}
use Rattle.repost_laws.proofs.TurnCounts.{AreAhead-turn}
use Rattle.repost_build.specs.Builds.{IsTurned}
use Rattle.repost_build.specs.Readings.{found_in, suspects_in, target_of, fetches_of}
use Rattle.repost_build.specs.declared.build.Build.{Build}
use Rattle.repost_worker.specs.Turns.{records_of, ahead_in, IsWorkOf, IsCleanOf, CanFetch, IsTurnTo}
use Rattle.repost_worker.specs.Runs.{AreTurnsTo, AreAtWork}
use Rattle.repost_worker.specs.declared.turn.Turned.{Turned}
use Rattle.repost_worker.specs.declared.turn.Turned.TheVariants.{Valued, Fetched, Published, Idle}
use Rattle.repost_worker.specs.declared.turn.TheConstants.{MAX_FETCHES}
use Rattle.repost_worker.proofs.Works.{records-published, covered-published}

-- how many fetches and publications come once no movement is suspect, with the valuations between them
abbrev pub turns_after : ℕ → ℕ → ℕ → ℕ → ℕ → ℕ
turns_after accepted covered target fetches movements =
    if nat_lt target accepted then (if nat_lt fetches MAX_FETCHES then movements + 2 else movements + 3)
    else (if nat_lt covered target then 1 else 0)

-- how many turns come at most for a build of so many records, where these movements are suspect
abbrev pub turns_from : List Deed → Suspects → ℕ → ℕ → ℕ
turns_from history suspects target fetches =
    ahead_in suspects (posting_line (take target (records history)))
    + turns_after (accepted history) (covered history) target fetches (made (records history))

abbrev pub turns_ahead : List Deed → Build → ℕ
turns_ahead history build = turns_from history (suspects_in build) (target_of build) (fetches_of build)

-- the build is of all records that are covered, and of none but those that were accepted
pub record IsBetween (history : List Deed) (build : Build) : Type 0 where
  pub covered : covered history ≤ target_of build
  pub accepted : target_of build ≤ accepted history

pub between-work : (history : List Deed) (build : Build) → IsWorkOf history build → IsBetween history build
between-work history build work = record { covered = omega (arith, work.base, work.of.fetched); accepted = work.within }

-- ---- the movements from the first suspect on

pub ahead-within : (suspects : Suspects) (line : List Entry) → ahead_in suspects line ≤ length line
ahead-within suspects [] = omega arith
ahead-within suspects (e ∷ es) =
    elim (suspects e.place) as (λ (b : Bool). cond b (length es + 1) (ahead_in suspects es) ≤ length (e ∷ es))
    [ true ↦ omega arith | false ↦ omega (arith, ahead-within suspects es) ]

ahead-clean : (suspects : Suspects) (line : List Entry) → IsClean line suspects → ahead_in suspects line ≡ 0
ahead-clean suspects [] clean = refl
ahead-clean suspects (e ∷ es) clean =
    rw (clean e (Contains-first e es)) (ahead-clean suspects es (λ f held. clean f (Contains-later e es f held)))

ahead-here : (suspects : Suspects) (e : Entry) (es : List Entry) → suspects e.place ≡ true → ahead_in suspects (e ∷ es) ≡ length es + 1
ahead-here suspects e es is = rw is refl

ahead-later : (suspects : Suspects) (e : Entry) (es : List Entry) → suspects e.place ≡ false → ahead_in suspects (e ∷ es) ≡ ahead_in suspects es
ahead-later suspects e es is = rw is refl

ahead-next : (suspects : Suspects) (e : Entry) (es : List Entry) → ahead_in suspects es ≤ ahead_in suspects (e ∷ es)
ahead-next suspects e es =
    elim (suspects e.place) as (λ (b : Bool). ahead_in suspects es ≤ cond b (length es + 1) (ahead_in suspects es))
    [ true ↦ omega (arith, ahead-within suspects es) | false ↦ omega arith ]

false-from : (b : Bool) → (b ≡ true → ⊥) → b ≡ false
false-from true never = absurd (never refl)
false-from false never = refl

-- where all suspects now come after one that was a suspect, there are fewer movements from the first suspect on
ahead-less : (line : List Entry) (suspects new_suspects : Suspects) (e : Entry) → Pairwise IsBefore line → Contains line e
    → suspects e.place ≡ true → AreAhead line new_suspects (Some e.place) → ahead_in new_suspects line < ahead_in suspects line
ahead-less [] suspects new_suspects e order held suspect ahead = absurd (omega (arith, held.1))
ahead-less (f ∷ fs) suspects new_suspects e order held suspect ahead =
    elim (Contains-cases f fs e held) [
      | inl same ↦
          let here : suspects f.place ≡ true = ap (λ (g : Entry). suspects g.place) same ∙ suspect in
          let passed : new_suspects f.place ≡ false = false-from (new_suspects f.place) (λ is.
          false≢true (sym (is_before-irreflexive f.place)
          ∙ subst (λ (g : Entry). is_before g.place f.place ≡ true) (sym same) (ahead f (Contains-first f fs) is))) in
          omega (arith, ahead-here suspects f fs here, ahead-later new_suspects f fs passed, ahead-within new_suspects fs)
      | inr later ↦
          let before = Precedes-Contains IsBefore f fs e order.0 later in
          let passed : new_suspects f.place ≡ false = false-from (new_suspects f.place) (λ is.
          false≢true (sym (is_before-asymmetric f.place e.place before) ∙ ahead f (Contains-first f fs) is)) in
          omega (
            arith,
            ahead-later new_suspects f fs passed,
            ahead-next suspects f fs,
            ahead-less fs suspects new_suspects e order.1 later suspect (λ g among. ahead g (Contains-later f fs g among)),
          )
    ]

-- so it is after a turn that values the first
pub ahead-turned : (journal : List Record) (old new : Build) (place : Place) → IsTurned journal old new place
    → ahead_in (suspects_in new) (posting_line journal) < ahead_in (suspects_in old) (posting_line journal)
ahead-turned journal old new place turned =
    ahead-less (posting_line journal) (suspects_in old) (suspects_in new) turned.entry
    (Pairwise-from_AllPairs IsBefore (posting_line journal) (IsInPostingOrder-posting_line journal)) turned.turn.first.held turned.turn.suspect
    (AreAhead-turn (added journal) (posting_line journal) (found_in old) (suspects_in old) turned.entry (found_in new) (suspects_in new) turned.turn)

-- the first records made no more movements than all, and have no more
pub made-front : (journal : List Record) (n : ℕ) → made (take n journal) ≤ made journal
made-front journal n =
    subst (λ (j : List Record). made (take n journal) ≤ made j) (take-append-drop n journal) (made-grows (take n journal) (drop n journal))

pub movements-front : (journal : List Record) (n : ℕ) → length (posting_line (take n journal)) ≤ made journal
movements-front journal n = omega (arith, length-line-made (take n journal), made-front journal n)

-- ---- the fetches and publications

after-most : (all covers target fetches movements : ℕ) → turns_after all covers target fetches movements ≤ movements + 3
after-most all covers target fetches movements = grind (arith, nat_tests)

after-fetch : (all covers target fetches movements : ℕ) → target < all → fetches < MAX_FETCHES
    → turns_after all covers target fetches movements ≡ movements + 2
after-fetch all covers target fetches movements more few = grind (arith, nat_tests)

after-fetched : (all covers fetches movements : ℕ) → turns_after all covers all fetches movements ≤ 1
after-fetched all covers fetches movements = grind (arith, nat_tests)

after-published : (all covers target fetches movements : ℕ) → ((target < all) × (fetches < MAX_FETCHES) → ⊥) → covers < target
    → turns_after all target target 0 movements < turns_after all covers target fetches movements
after-published all covers target fetches movements no_fetch more = grind (arith, nat_tests)

after-none : (all covers target fetches movements : ℕ) → covers ≤ target → target ≤ all
    → turns_after all covers target fetches movements ≡ 0 → covers ≡ all
after-none all covers target fetches movements low high none = grind (arith, nat_tests)

-- ---- a turn

module _ (history : List Deed) (build build' : Build) (between : IsBetween history build) where
  turned-less : (place : Place) → IsTurned (records_of history build) build build' place → turns_ahead history build' < turns_ahead history build
  turned-less place turned =
      let less = ahead-turned (records_of history build) build build' place turned in
      subst (λ (n : ℕ). turns_from history (suspects_in build') n (fetches_of build') < turns_ahead history build) (sym turned.target)
      (subst (λ (n : ℕ). turns_from history (suspects_in build') (target_of build) n < turns_ahead history build) (sym turned.fetches)
      (omega (arith, less)))

  fetched-less : target_of build' ≡ accepted history → CanFetch history build → turns_ahead history build' < turns_ahead history build
  fetched-less all can =
      let journal = records history in
      let movements = made journal in
      let within = ahead-within (suspects_in build') (posting_line (take (target_of build') journal)) in
      let front = movements-front journal (target_of build') in
      let after : turns_after (accepted history) (covered history) (target_of build') (fetches_of build') movements ≤ 1 =
      subst (λ (n : ℕ). turns_after (accepted history) (covered history) n (fetches_of build') movements ≤ 1) (sym all)
      (after-fetched (accepted history) (covered history) (fetches_of build') movements) in
      let before = after-fetch (accepted history) (covered history) (target_of build) (fetches_of build) movements can.0 can.1 in
      omega (arith, within, front, after, before)

  published-less : (n : RecordNo) → n.0 ≡ target_of build → IsCleanOf history build → (CanFetch history build → ⊥)
      → covered history < target_of build → target_of build' ≡ target_of build → fetches_of build' ≡ 0
      → ((place : Place) → suspects_in build' place ≡ suspects_in build place)
      → turns_ahead (history ++ deed.Published n ∷ []) build' < turns_ahead history build
  published-less n all clean no_fetch more target fetches suspects =
      let journal = records history in
      let movements = made journal in
      let none = ahead-clean (suspects_in build') (posting_line (take (target_of build) journal)) (λ e held. suspects e.place ∙ clean e held) in
      let later = after-published (accepted history) (covered history) (target_of build) (fetches_of build) movements no_fetch more in
      let less : ahead_in (suspects_in build') (posting_line (take (target_of build) journal))
      + turns_after (accepted history) (target_of build) (target_of build) 0 movements < turns_ahead history build = omega (arith, none, later) in
      subst (λ (rs : List Record). ahead_in (suspects_in build') (posting_line (take (target_of build') rs))
      + turns_after (length rs) (covered (history ++ deed.Published n ∷ [])) (target_of build') (fetches_of build') (made rs)
      < turns_ahead history build) (sym (records-published history n))
      (subst (λ (c : ℕ). ahead_in (suspects_in build') (posting_line (take (target_of build') journal))
      + turns_after (accepted history) c (target_of build') (fetches_of build') movements < turns_ahead history build)
      (sym (covered-published history n ∙ all))
      (subst (λ (t : ℕ). ahead_in (suspects_in build') (posting_line (take t journal))
      + turns_after (accepted history) (target_of build) t (fetches_of build') movements < turns_ahead history build) (sym target)
      (subst (λ (f : ℕ). ahead_in (suspects_in build') (posting_line (take (target_of build) journal))
      + turns_after (accepted history) (target_of build) (target_of build) f movements < turns_ahead history build) (sym fetches) less)))

-- a turn that does something leaves fewer to come
pub turns_ahead-less : (history : List Deed) (build : Build) (turned : Turned) (history' : List Deed) (build' : Build)
    → IsBetween history build → IsTurnTo history build turned history' build' → turned ≢ Idle
    → turns_ahead history' build' < turns_ahead history build
turns_ahead-less history build (Valued place) history' build' between turn more =
    subst (λ (h : List Deed). turns_ahead h build' < turns_ahead history build) (sym turn.0)
    (turned-less history build build' between place turn.1)
turns_ahead-less history build (Fetched n) history' build' between turn more =
    subst (λ (h : List Deed). turns_ahead h build' < turns_ahead history build) (sym turn.3)
    (fetched-less history build build' between turn.4.target turn.1)
turns_ahead-less history build (Published n) history' build' between turn more =
    subst (λ (h : List Deed). turns_ahead h build' < turns_ahead history build) (sym turn.4)
    (published-less history build build' between n turn.3 turn.0 turn.1 turn.2 turn.5.target turn.5.fetches turn.5.suspects)
turns_ahead-less history build Idle history' build' between turn more = absurd (more refl)

between-turn : (history : List Deed) (build : Build) (turned : Turned) (history' : List Deed) (build' : Build)
    → IsBetween history build → IsTurnTo history build turned history' build' → IsBetween history' build'
between-turn history build (Valued place) history' build' between turn =
    subst (λ (h : List Deed). IsBetween h build') (sym turn.0)
    (record { covered = omega (arith, between.covered, turn.1.target); accepted = omega (arith, between.accepted, turn.1.target) })
between-turn history build (Fetched n) history' build' between turn =
    subst (λ (h : List Deed). IsBetween h build') (sym turn.3)
    (record { covered = omega (arith, between.covered, turn.4.target, turn.1.0); accepted = omega (arith, turn.4.target) })
between-turn history build (Published n) history' build' between turn =
    subst (λ (h : List Deed). IsBetween h build') (sym turn.4)
    (record {
      covered = omega (arith, covered-published history n, turn.3, turn.5.target);
      accepted = omega (arith, ap length (records-published history n), between.accepted, turn.5.target);
    })
between-turn history build Idle history' build' between turn =
    subst (λ (h : List Deed). IsBetween h build') (sym turn.2)
    (record { covered = omega (arith, between.covered, turn.3.target); accepted = omega (arith, between.accepted, turn.3.target) })

-- ---- turns one after another

-- so many turns as did something come no more
pub turns_ahead-run : (turns : List Turned) (history : List Deed) (build : Build) (history' : List Deed) (build' : Build)
    → IsBetween history build → AreTurnsTo turns history build history' build' → AreAtWork turns
    → IsBetween history' build' × (turns_ahead history' build' + length turns ≤ turns_ahead history build)
turns_ahead-run [] history build history' build' between run at_work =
    subst (λ (h : List Deed). IsBetween h build' × (turns_ahead h build' + 0 ≤ turns_ahead history build)) (sym run.0)
    (subst (λ (b : Build). IsBetween history b × (turns_ahead history b + 0 ≤ turns_ahead history build)) (sym run.1) (between, omega arith))
turns_ahead-run (turned ∷ turns) history build history' build' between run at_work =
    let less = turns_ahead-less history build turned run.0 run.1 between run.2 (at_work turned (Contains-first turned turns)) in
    let rest = turns_ahead-run turns run.0 run.1 history' build' (between-turn history build turned run.0 run.1 between run.2) run.3
    (λ t held. at_work t (Contains-later turned turns t held)) in
    (rest.0, omega (arith, less, rest.1))

-- at first there come two for each movement that was ever made and three more at most
pub turns_ahead-most : (history : List Deed) (build : Build) → turns_ahead history build ≤ 2 * made (records history) + 3
turns_ahead-most history build =
    let movements = made (records history) in
    omega (
      arith,
      ahead-within (suspects_in build) (posting_line (records_of history build)),
      movements-front (records history) (target_of build),
      after-most (accepted history) (covered history) (target_of build) (fetches_of build) movements,
    )

-- where none comes, all that was accepted is covered
pub turns_ahead-none : (history : List Deed) (build : Build) → IsBetween history build → turns_ahead history build ≡ 0
    → covered history ≡ accepted history
turns_ahead-none history build between none =
    after-none (accepted history) (covered history) (target_of build) (fetches_of build) (made (records history))
    between.covered between.accepted (omega (arith, none))
