-- What holds of a run, whatever it was made of.
use Rattle.std.proofs.Common.{◌≡◌, ℕ, ◌+◌, ◌*◌, ◌≤◌, List, [], ◌∷◌, ◌++◌, length, Option, Some, None, inl, inr, refl, sym, ap, ◌∙◌, subst, length-append, arith}
use Rattle.stock_keeper.specs.declared.fault.KeepFault.{KeepFault}
use Rattle.stock_model.specs.History.{records, accepted, covered}
use Rattle.stock_model.specs.declared.deeds.Deed.{Deed}
use Rattle.repost_laws.specs.WholeBuilds.{made}
use Rattle.repost_build.specs.declared.build.Build.{Build}
use Rattle.repost_worker.specs.Turns.{IsWorkOf, IsTurnTo}
use Rattle.repost_worker.specs.Runs.{AreTurnsTo, AreAtWork, AreAllUntil, IsRun}
use Rattle.repost_worker.specs.declared.turn.Turned.{Turned}
use Rattle.repost_worker.specs.declared.turn.Turned.TheVariants.{Valued, Fetched, Published, Idle}
use Rattle.repost_worker.proofs.TurnsAhead.{between-work, turns_ahead-run, turns_ahead-most, turns_ahead-none}
use Rattle.repost_worker.proofs.Works.{records-published}

records-turn : (history : List Deed) (build : Build) (turned : Turned) (history' : List Deed) (build' : Build)
    → IsTurnTo history build turned history' build' → records history' ≡ records history
records-turn history build (Valued place) history' build' turn = ap records turn.0
records-turn history build (Fetched n) history' build' turn = ap records turn.3
records-turn history build (Published n) history' build' turn = ap records turn.4 ∙ records-published history n
records-turn history build Idle history' build' turn = ap records turn.2

-- turns accept no record
records-turns : (turns : List Turned) (history : List Deed) (build : Build) (history' : List Deed) (build' : Build)
    → AreTurnsTo turns history build history' build' → records history' ≡ records history
records-turns [] history build history' build' run = ap records run.0
records-turns (turned ∷ turns) history build history' build' run =
    records-turns turns run.0 run.1 history' build' run.3 ∙ records-turn history build turned run.0 run.1 run.2

-- the last of turns, after all others
turns-last : (turns : List Turned) (turned : Turned) (history : List Deed) (build : Build) (history' : List Deed) (build' : Build)
    → AreTurnsTo (turns ++ turned ∷ []) history build history' build'
    → (mid : List Deed) × (then : Build) × AreTurnsTo turns history build mid then × IsTurnTo mid then turned history' build'
turns-last [] turned history build history' build' run = (
  history,
  build,
  (refl, refl),
  subst (λ (h : List Deed). IsTurnTo history build turned h build') (sym run.3.0)
      (subst (λ (b : Build). IsTurnTo history build turned run.0 b) (sym run.3.1) run.2),
)
turns-last (first ∷ turns) turned history build history' build' run =
    let rest = turns-last turns turned run.0 run.1 history' build' run.3 in
    (rest.0, rest.1, (run.0, run.1, run.2, rest.2), rest.3)

-- after an idle turn all that was accepted is covered
pub covered-idle : (turns before : List Turned) (history : List Deed) (build : Build) (history' : List Deed) (build' : Build)
    → turns ≡ before ++ Idle ∷ [] → AreTurnsTo turns history build history' build' → covered history' ≡ accepted history'
covered-idle turns before history build history' build' is run =
    let last = turns-last before Idle history build history' build' (subst (λ (ts : List Turned). AreTurnsTo ts history build history' build') is run) in
    ap covered last.3.2 ∙ last.3.1 ∙ sym (ap accepted last.3.2)

-- so it is where as many turns did something as may come
pub covered-full : (turns : List Turned) (history : List Deed) (build : Build) (history' : List Deed) (build' : Build)
    → IsWorkOf history build → AreTurnsTo turns history build history' build' → AreAtWork turns
    → 2 * made (records history) + 3 ≤ length turns → covered history' ≡ accepted history'
covered-full turns history build history' build' work run at_work many =
    let fewer = turns_ahead-run turns history build history' build' (between-work history build work) run at_work in
    turns_ahead-none history' build' fewer.0 (omega (arith, fewer.1, turns_ahead-most history build, many))

-- and no more of them can come
few-at_work : (turns : List Turned) (history : List Deed) (build : Build) (history' : List Deed) (build' : Build)
    → IsWorkOf history build → AreTurnsTo turns history build history' build' → AreAtWork turns
    → length turns ≤ 2 * made (records history) + 3
few-at_work turns history build history' build' work run at_work =
    let fewer = turns_ahead-run turns history build history' build' (between-work history build work) run at_work in
    omega (arith, fewer.1, turns_ahead-most history build)

few-until : (stopped : Option KeepFault) (limit : Option ℕ) (turns : List Turned) (history : List Deed) (build : Build)
    (history' : List Deed) (build' : Build) → IsWorkOf history build → AreTurnsTo turns history build history' build'
    → AreAllUntil stopped limit turns → length turns ≤ 2 * made (records history) + 4
few-until None limit turns history build history' build' work run (inl idle) =
    let last = turns-last idle.before Idle history build history' build'
    (subst (λ (ts : List Turned). AreTurnsTo ts history build history' build') idle.last run) in
    let few = few-at_work idle.before history build last.0 last.1 work last.2 idle.at_work in
    omega (arith, few, ap length idle.last, length-append idle.before (Idle ∷ []))
few-until None limit turns history build history' build' work run (inr full) =
    omega (arith, few-at_work turns history build history' build' work run full.at_work)
few-until (Some refusal) limit turns history build history' build' work run refused =
    omega (arith, few-at_work turns history build history' build' work run refused.at_work)

module _ (limit : Option ℕ) (stopped : Option KeepFault) (history history' : List Deed) (build build' : Build) (steps steps' : ℕ)
    (run : IsRun limit stopped history build steps history' build' steps') where
  pub records-run : records history' ≡ records history
  records-run = records-turns run.turns history build history' run.last run.run

  pub few-run : IsWorkOf history build → length run.turns ≤ 2 * made (records history) + 4
  few-run work = few-until stopped limit run.turns history build history' run.last work run.run run.ended

pub covered-run : (history history' : List Deed) (build build' : Build) (steps steps' : ℕ)
    → IsRun None None history build steps history' build' steps' → covered history' ≡ accepted history'
covered-run history history' build build' steps steps' run =
    elim run.ended [
      | inl idle ↦ covered-idle run.turns idle.before history build history' run.last idle.last run.run
      | inr full ↦ cc full.full
    ]

pub covered-many : (limit : ℕ) (history history' : List Deed) (build build' : Build) (steps steps' : ℕ) → IsWorkOf history build
    → IsRun (Some limit) None history build steps history' build' steps'
    → 2 * made (records history) + 3 ≤ limit → covered history' ≡ accepted history'
covered-many limit history history' build build' steps steps' work run many =
    elim run.ended [
      | inl idle ↦ covered-idle run.turns idle.before history build history' run.last idle.last run.run
      | inr full ↦
          let made : limit ≡ length run.turns = cc full.full in
          covered-full run.turns history build history' run.last work run.run full.at_work (omega (arith, many, made))
    ]
