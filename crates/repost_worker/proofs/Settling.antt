-- Where a worker has taken in no more than is covered, it publishes all that wait at once.
use Rattle.std.proofs.Common.{◌≡◌, ◌⊎◌, ℕ, ◌<◌, Bool, true, false, nat_lt, if◌then◌else◌, List, [], ◌∷◌, ◌++◌, length, None, inl, inr, refl, sym, ap, ◌∙◌, subst, arith}
use Rattle.std.proofs.lemmas.Bool.Decides.{nat_tests}
use Rattle.stock_nums.specs.declared.numbers.RecordNo.{RecordNo}
use Rattle.stock_model.specs.History.{accepted, covered, settled}
use Rattle.stock_model.specs.declared.deeds.Deed.{Deed}
use Rattle.stock_model.specs.declared.deeds.Deed.TheVariants as deed
use Rattle.repost_build.specs.Readings.{target_of}
use Rattle.repost_build.specs.declared.build.Build.{Build}
use Rattle.repost_worker.specs.Turns.{IsTurnTo}
use Rattle.repost_worker.specs.Runs.{AreTurnsTo, IsRun}
use Rattle.repost_worker.specs.declared.turn.Turned.{Turned}
use Rattle.repost_worker.specs.declared.turn.Turned.TheVariants.{Valued, Fetched, Published, Idle}
use Rattle.repost_worker.proofs.RunLaws.{covered-run}
use Rattle.repost_worker.proofs.Works.{records-published, covered-published}

-- a history after all accepted records were published
abbrev pub all_published : List Deed → List Deed
all_published history = history ++ deed.Published (record { 0 = accepted history }) ∷ []

-- nothing was published yet, and the build is of what is covered or of all that was accepted
pub record IsUnpublished (first history : List Deed) (build : Build) : Type 0 where
  pub same : history ≡ first
  pub target : (target_of build ≡ covered first) ⊎ (target_of build ≡ accepted first)

-- all was published at once
pub record IsAllPublished (first history : List Deed) (build : Build) : Type 0 where
  pub later : covered first < accepted first
  pub grows : history ≡ all_published first
  pub target : target_of build ≡ accepted first

abbrev pub IsAtOnce : List Deed → List Deed → Build → Type 0
IsAtOnce first history build = IsUnpublished first history build ⊎ IsAllPublished first history build

-- nothing is to be done afterwards
module _ (first history : List Deed) (build : Build) (after : IsAllPublished first history build) where
  accepted-after : accepted history ≡ accepted first
  accepted-after = ap accepted after.grows ∙ ap length (records-published first (record { 0 = accepted first }))

  covered-after : covered history ≡ accepted first
  covered-after = ap covered after.grows ∙ covered-published first (record { 0 = accepted first })

  -- the history and the build stay of what they are of
  after-still : (history' : List Deed) (build' : Build) → history' ≡ history → target_of build' ≡ target_of build
      → IsAtOnce first history' build'
  after-still history' build' same target =
      inr (record { later = after.later; grows = same ∙ after.grows; target = target ∙ after.target })

before-still : (first history : List Deed) (build : Build) (history' : List Deed) (build' : Build) → IsUnpublished first history build
    → history' ≡ history → target_of build' ≡ target_of build → IsAtOnce first history' build'
before-still first history build history' build' before same target = inl (record {
  same = same ∙ before.same;
  target = subst (λ (n : ℕ). (n ≡ covered first) ⊎ (n ≡ accepted first)) (sym target) before.target;
})

before-published : (first history : List Deed) (build : Build) (n : RecordNo) (history' : List Deed) (build' : Build) → history ≡ first
    → target_of build ≡ accepted first → covered history < target_of build → n.0 ≡ target_of build
    → history' ≡ history ++ deed.Published n ∷ [] → target_of build' ≡ target_of build → IsAtOnce first history' build'
before-published first history build n history' build' same all more is grows target = inr (record {
  later = omega (arith, more, ap covered same, all);
  grows = grows ∙ ap (λ (h : List Deed). h ++ deed.Published n ∷ []) same
      ∙ ap (λ (k : ℕ). first ++ deed.Published (record { 0 = k }) ∷ []) (is ∙ all);
  target = target ∙ all;
})

once-turn : (first history : List Deed) (build : Build) (turned : Turned) (history' : List Deed) (build' : Build)
    → IsAtOnce first history build → IsTurnTo history build turned history' build' → IsAtOnce first history' build'
once-turn first history build (Valued place) history' build' (inl before) turn =
    before-still first history build history' build' before turn.0 turn.1.target
once-turn first history build (Fetched n) history' build' (inl before) turn =
    inl (record { same = turn.3 ∙ before.same; target = inr (turn.4.target ∙ ap accepted before.same) })
once-turn first history build (Published n) history' build' (inl before) turn =
    elim before.target [
      | inl none ↦ absurd (omega (arith, turn.2, ap covered before.same, none))
      | inr all ↦ before-published first history build n history' build' before.same all turn.2 turn.3 turn.4 turn.5.target
    ]
once-turn first history build Idle history' build' (inl before) turn =
    before-still first history build history' build' before turn.2 turn.3.target
once-turn first history build (Valued place) history' build' (inr after) turn =
    after-still first history build after history' build' turn.0 turn.1.target
once-turn first history build (Fetched n) history' build' (inr after) turn =
    absurd (omega (arith, turn.1.0, after.target, accepted-after first history build after))
once-turn first history build (Published n) history' build' (inr after) turn =
    absurd (omega (arith, turn.2, after.target, covered-after first history build after))
once-turn first history build Idle history' build' (inr after) turn =
    after-still first history build after history' build' turn.2 turn.3.target

once-turns : (first : List Deed) (turns : List Turned) (history : List Deed) (build : Build) (history' : List Deed) (build' : Build)
    → IsAtOnce first history build → AreTurnsTo turns history build history' build' → IsAtOnce first history' build'
once-turns first [] history build history' build' is run =
    subst (λ (h : List Deed). IsAtOnce first h build') (sym run.0)
    (subst (λ (b : Build). IsAtOnce first history b) (sym run.1) is)
once-turns first (turned ∷ turns) history build history' build' is run =
    once-turns first turns run.0 run.1 history' build' (once-turn first history build turned run.0 run.1 is run.2) run.3

settled-if : (history : List Deed) (b : Bool) → nat_lt (covered history) (accepted history) ≡ b
    → settled history ≡ (if b then all_published history else history)
settled-if history b is = ap (λ (c : Bool). if c then all_published history else history) is

settled-none : (history : List Deed) → covered history ≡ accepted history → settled history ≡ history
settled-none history all =
    let none : nat_lt (covered history) (accepted history) ≡ false = grind (arith, nat_tests, all) in
    settled-if history false none

settled-some : (history : List Deed) → covered history < accepted history → settled history ≡ all_published history
settled-some history more =
    let some : nat_lt (covered history) (accepted history) ≡ true = grind (arith, nat_tests, more) in
    settled-if history true some

-- a run without limit settles, where the build is of no more than is covered
pub settled-run : (history history' : List Deed) (build build' : Build) (steps steps' : ℕ) → target_of build ≡ covered history
    → IsRun None None history build steps history' build' steps' → history' ≡ settled history
settled-run history history' build build' steps steps' same run =
    let all = covered-run history history' build build' steps steps' run in
    elim (once-turns history run.turns history build history' run.last (inl (record { same = refl; target = inl same })) run.run) [
      | inl before ↦
          before.same ∙ sym (settled-none history (sym (ap covered before.same) ∙ all ∙ ap accepted before.same))
      | inr after ↦ after.grows ∙ sym (settled-some history after.later)
    ]
