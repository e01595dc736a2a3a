-- Which number of the plan a call has that failed after a service: one behind those of the opening and of each event since.
use Rattle.std.proofs.Common.{◌≡◌, ◌+◌, ◌-◌, ◌*◌, ◌^◌, ◌<◌, ◌≤◌, ℕ, List, [], ◌∷◌, ◌++◌, Option, Some, None, IfSome, OnSome, length, length-append, ap, ◌∙◌, subst, arith}
use Rattle.std.specs.Prelude.{min, Contains}
use Rattle.stock_io.specs.Counts.{raised}
use Rattle.stock_nums.specs.declared.limits.TheConstants.{MAX_RECORDS}
use Rattle.stock_model.specs.History.{records, accepted, IsLegalAfter, IsLegal}
use Rattle.stock_model.specs.declared.deeds.Deed.{Deed}
use Rattle.stock_model.specs.declared.deeds.Deed.TheVariants.{Kept, Published}
use Rattle.stock_model.specs.declared.records.Record.{Record}
use Rattle.stock_laws.proofs.Legality.{AreLegal-history, IsHeld-legal}
use Rattle.stock_keeper.specs.Calls.{KeeperState, IsPlanned, HasCalled}
use Rattle.stock_keeper.specs.declared.fault.KeepFault.TheVariants as keep
use Rattle.stock_keeper.proofs.Calls.{called-done, called-more}
use Rattle.repost_worker.specs.Paces.{Pace}
use Rattle.stock_serving.specs.Serving.{IsRefusedFor, CallsEach, HasLater}

-- each publication covers more, so there are no more of them than records
events-within : (journal : List Record) (covered : ℕ) (history : List Deed) → covered ≤ length journal → IsLegalAfter journal covered history
    → length history + covered ≤ 2 * accepted history + length journal
events-within journal covered [] within legal = omega (arith, within)
events-within journal covered (Kept item ∷ history) within legal =
    let longer : length (journal ++ item ∷ []) ≡ length journal + 1 = length-append journal (item ∷ []) in
    let rest = events-within (journal ++ item ∷ []) covered history (omega (arith, within, longer)) legal.1 in
    omega (arith, rest, longer)
events-within journal covered (Published n ∷ history) within legal =
    let rest = events-within journal n.0 history legal.1 legal.2 in
    omega (arith, rest, legal.0)

few-events : (history : List Deed) → IsLegal history → length history ≤ 2 * MAX_RECORDS
few-events history legal =
    let held = IsHeld-legal (records history) (AreLegal-history history legal) in
    omega (arith, events-within [] 0 history (omega arith) legal, held.records)

-- the next call after so many has a number of the plan
planned-later : (plan : Option (List ℕ)) (events : ℕ) (first between : KeeperState) → IfSome plan (λ numbers. first.plan ≡ Some numbers)
    → IfSome plan (λ numbers. first.calls ≡ 1) → HasCalled events first.plan first.calls between → IsPlanned between
    → events ≤ 2 * MAX_RECORDS → HasLater plan events
planned-later None events first between told once called planned few = tt
planned-later (Some numbers) events first between told once called planned few =
    let counted : min (first.calls + events) (2 ^ 64 - 1) ≤ between.calls =
    subst (λ (p : Option (List ℕ)). OnSome p (min (first.calls + events) (2 ^ 64 - 1) ≤ between.calls)) told called.counted in (
      raised between.calls,
      subst (λ (p : Option (List ℕ)). IfSome p (λ ns. Contains ns (raised between.calls))) (called.plan_kept ∙ told) planned,
      omega (arith, counted, once, few),
    )

pub failed-later : (plan : Option (List ℕ)) (first served last : Pace) → IfSome plan (λ numbers. first.keeper.plan ≡ Some numbers)
    → IfSome plan (λ numbers. first.keeper.calls ≡ 1) → CallsEach first served → IsRefusedFor keep.Failed served last → IsLegal last.history
    → HasLater plan (length last.history - length first.history)
failed-later plan first served last told once calls refused legal =
    let gone = length served.history - length first.history in
    let more = length refused.more in
    let done = called-done refused.more served.keeper refused.between refused.done in
    let called = called-more gone more first.keeper.plan first.keeper.calls served.keeper refused.between calls.called done in
    let long : length last.history ≡ length served.history + more = ap length refused.grows ∙ length-append served.history refused.more in
    let longer : length first.history ≤ length served.history = calls.longer in
    let all : gone + more ≡ length last.history - length first.history = omega (arith, long, longer) in
    planned-later plan (length last.history - length first.history) first.keeper refused.between told once
    (subst (λ (n : ℕ). HasCalled n first.keeper.plan first.keeper.calls refused.between) all called) refused.last.planned
    (omega (arith, few-events last.history legal))
