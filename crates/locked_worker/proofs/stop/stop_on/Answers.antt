-- Where nothing may be fetched and nothing is ahead, all is covered.
use Rattle.std.proofs.Common.{◌≡◌, ◌<◌, ◌≤◌, List, refl, inl, inr, sym, ◌∙◌, subst, arith}
use Rattle.std.proofs.lemmas.Bool.{cases_lt, false≢true}
use Rattle.stock_model.specs.History.{accepted, covered}
use Rattle.stock_model.specs.declared.deeds.Deed.{Deed}
use Rattle.stock_keeper.specs.Calls.{AreDone}
use Rattle.repost_build.specs.Readings.{base_of, target_of}
use Rattle.repost_build.specs.declared.build.Build.{Build}
use Rattle.repost_worker.specs.Turns.{records_of, IsWorkOf, CanFetch}
use Rattle.locked_worker.specs.Stopped.{IsAheadOf}
use Rattle.locked_worker.proofs.stop.stop_on.Goals as goal

all-covered : (history : List Deed) (build : Build) → IsWorkOf history build → target_of build ≤ base_of build → (CanFetch history build → ⊥)
    → covered history ≡ accepted history
all-covered history build work none_ahead none =
    elim (cases_lt (target_of build) (accepted history)) [
      | inl waits ↦ absurd (none (waits, omega (arith, work.of.fetched, none_ahead)))
      | inr all ↦ omega (arith, work.of.fetched, work.base, work.within, none_ahead, all)
    ]

pub returns-then-can_fetch-clause-stopped : goal.returns-then-can_fetch-clause-stopped
returns-then-can_fetch-clause-stopped g c = c.in_ok-copied.ensures.1

pub returns-then-can_fetch-clause-done : goal.returns-then-can_fetch-clause-done
returns-then-can_fetch-clause-done g c =
    let keeper = c.args.book.now.keeper in
    subst (λ (events : List Deed). AreDone events keeper keeper) (sym c.in_ok-copied.ensures.0) refl

pub returns-in-Nothing-clause-stopped : goal.returns-in-Nothing-clause-stopped
returns-in-Nothing-clause-stopped g c =
    let history = c.args.book.now.history in
    let build = c.args.build.now in
    let ahead = subst (IsAheadOf (records_of history build) build) c.in-Nothing.is c.requires.ahead in (
      all-covered history build c.requires.work ahead (λ can. false≢true (sym c.if-can_fetch.false ∙ c.can_fetch.ensures.1 can)),
      refl,
    )

pub publish_ready-requires-clause-none : goal.publish_ready-requires-clause-none
publish_ready-requires-clause-none g c can = false≢true (sym c.if-can_fetch.false ∙ c.can_fetch.ensures.1 can)

pub publish_ready-requires-clause-later : goal.publish_ready-requires-clause-later
publish_ready-requires-clause-later g c =
    let build = c.args.build.now in
    let ahead = subst (IsAheadOf (records_of c.args.book.now.history build) build) c.in-Ready.is c.requires.ahead in
    omega (arith, ahead.0, c.requires.work.base)

pub publish_ready-requires-clause-ready : goal.publish_ready-requires-clause-ready
publish_ready-requires-clause-ready g c =
    let build = c.args.build.now in
    (subst (IsAheadOf (records_of c.args.book.now.history build) build) c.in-Ready.is c.requires.ahead).1
