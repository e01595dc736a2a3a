-- How far a service comes with the ledger of a keeper.
use Rattle.std.proofs.Common.{◌≡◌, ◌<◌, ◌≤◌, ℕ, List, Option, Result, Ok, Err, inl, inr, sym, subst, arith}
use Rattle.std.specs.Prelude.{String}
use Rattle.std.specs.declared.alloc.Global.{Global}
use Rattle.std.proofs.lemmas.Bool.{cases_lt}
use Rattle.std.proofs.lemmas.List.{length-map}
use Rattle.stock_io.specs.Counts.{Rose, NeverFalls}
use Rattle.stock_model.specs.History.{IsLegal}
use Rattle.stock_model.specs.declared.deeds.Deed.{Deed}
use Rattle.stock_keeper.specs.declared.fault.KeepFault.{KeepFault}
use Rattle.stock_keeper.specs.declared.fault.KeepFault.TheVariants as keep
use Rattle.stock_keeper.specs.declared.tables.Tables.{Tables}
use Rattle.repost_worker.specs.Paces.{Pace}
use Rattle.stock_io.specs.Heard.{Heard}
use Rattle.desk_connections.specs.Visits.{Visit}
use Rattle.desk_service.specs.Service.{IsService}
use Rattle.stock_ends.specs.Openings.{end_of_refusal}
use Rattle.stock_serving.specs.Serving.{Settles, IsRefusedFor, IsUnsettledFor, CallsEach, IsCutShort, Leaves, LeavesKept, IsBegun}
use Rattle.stock_ends.specs.declared.end.End.{End}
use Rattle.stock_ends.specs.declared.end.End.TheVariants.{Done, NoMemory, ReadFailed, WriteFailed, TooLong, StoreFailed, ListenFailed, BadSheet, Damaged}

-- all of it is heard as it was
pub heard-same : {P : Type 0} (old new : Heard P) → new.waiting ≡ old.waiting → new.hung_up ≡ old.hung_up → new.accepts ≡ old.accepts
    → new.hang_ups ≡ old.hang_ups → new.faults ≡ old.faults → new ≡ old
heard-same old new waiting hung_up accepts hang_ups faults i =
    record { waiting = waiting i; hung_up = hung_up i; accepts = accepts i; hang_ups = hang_ups i; faults = faults i }

-- the end of what was refused after a service
pub unsettled : (fault : KeepFault) (served last : Pace) → IsRefusedFor fault served last → IsUnsettledFor (end_of_refusal fault) served last
unsettled keep.Failed served last refused =
    let rose : Rose 0 last.keeper.faults = λ few. omega (arith, refused.last.fault few) in
    (refused, rose)
unsettled keep.NoMemory served last refused = inl refused

module _ {P : Type 0} (serves : ℕ → ℕ → ℕ → List Deed → List Deed → List (Visit P) → Type 0) (is_fresh : P → Type 0) (desks connections : ℕ) where
  -- the count of the listener did not fall
  pub service-falls : (came : ℕ) (first final : List Deed) (faults faults' : ℕ) (old new : Heard P) → IsService serves is_fresh desks connections came first final faults faults' old new
      → NeverFalls old.faults new.faults
  service-falls came first final faults faults' old new service = omega (arith, service.accepts.never_falls, service.hung_up.faults)

  -- no more came than were wanted
  service-all : (came : ℕ) (first final : List Deed) (faults faults' : ℕ) (old new : Heard P) → IsService serves is_fresh desks connections came first final faults faults' old new
      → connections ≤ came → IsService serves is_fresh desks connections connections first final faults faults' old new
  service-all came first final faults faults' old new service all =
      let same : came ≡ connections = omega (arith, all, service.count, length-map service.came (λ visit. visit.1.peer), service.accepts.no_more) in
      subst (λ (n : ℕ). IsService serves is_fresh desks connections n first final faults faults' old new) same service

  -- fewer came, as the listener failed
  service-few : (came : ℕ) (first last : Pace) (old new : Heard P)
      → IsService serves is_fresh desks connections came first.history last.history first.keeper.faults last.keeper.faults old new → CallsEach first last → came < connections
      → IsCutShort serves is_fresh desks connections first last old new
  service-few came first last old new service calls few =
      record {
        came = came;
        few = few;
        service = service;
        calls = calls;
        cause = subst (Rose old.faults) (sym service.hung_up.faults) (service.accepts.cause (omega (arith, few, service.count, length-map service.came (λ visit. visit.1.peer))));
      }

  -- all came, and what they had left of the ledger was settled, or that was refused
  leaves-settled : (summary : Result (String Global) End) (first served last : Pace) (old new : Heard P)
      → IsService serves is_fresh desks connections connections first.history served.history first.keeper.faults served.keeper.faults old new → CallsEach first served
      → Settles summary served last → IsLegal last.history → Leaves serves is_fresh desks connections summary first last old new
  leaves-settled (Ok text) first served last old new service calls settles legal =
      (record { served = served; service = service; calls = calls; then = settles.0; legal = legal }, settles.1)
  leaves-settled (Err NoMemory) first served last old new service calls settles legal =
      inr (record { served = served; service = service; calls = calls; then = settles; legal = legal })
  leaves-settled (Err StoreFailed) first served last old new service calls settles legal =
      record { served = served; service = service; calls = calls; then = settles; legal = legal }
  leaves-settled (Err Done) first served last old new service calls settles legal = absurd settles
  leaves-settled (Err ReadFailed) first served last old new service calls settles legal = absurd settles
  leaves-settled (Err WriteFailed) first served last old new service calls settles legal = absurd settles
  leaves-settled (Err TooLong) first served last old new service calls settles legal = absurd settles
  leaves-settled (Err BadSheet) first served last old new service calls settles legal = absurd settles
  leaves-settled (Err ListenFailed) first served last old new service calls settles legal = absurd settles
  leaves-settled (Err (Damaged damage)) first served last old new service calls settles legal = absurd settles

  leaves-few : (summary : Result (String Global) End) (came : ℕ) (first served last : Pace) (old new : Heard P)
      → IsService serves is_fresh desks connections came first.history served.history first.keeper.faults served.keeper.faults old new → CallsEach first served → came < connections
      → (summary ≡ Err ListenFailed) × (last ≡ served) → Leaves serves is_fresh desks connections summary first last old new
  leaves-few summary came first served last old new service calls few ended =
      subst (λ (s : Result (String Global) End). Leaves serves is_fresh desks connections s first last old new) (sym ended.0)
      (subst (λ (p : Pace). Leaves serves is_fresh desks connections (Err ListenFailed) first p old new) (sym ended.1)
      (inr (service-few came first served old new service calls few)))

  pub leaves : (summary : Result (String Global) End) (came : ℕ) (first served last : Pace) (old new : Heard P)
      → IsService serves is_fresh desks connections came first.history served.history first.keeper.faults served.keeper.faults old new → CallsEach first served
      → (came < connections → (summary ≡ Err ListenFailed) × (last ≡ served)) → (connections ≤ came → Settles summary served last)
      → (IsLegal served.history → IsLegal last.history) → Leaves serves is_fresh desks connections summary first last old new
  leaves summary came first served last old new service calls few all legal = elim (cases_lt came connections) [
    | inl short ↦ leaves-few summary came first served last old new service calls short (few short)
    | inr enough ↦ leaves-settled summary first served last old new
        (service-all came first.history served.history first.keeper.faults served.keeper.faults old new service enough) calls (all enough) (legal service.legal)
  ]

  -- the same from equal states of the book and what is heard
  pub leaves-of : (summary : Result (String Global) End) (came : ℕ) (before first served last : Pace) (old new heard : Heard P)
      → before ≡ first → heard ≡ new → IsService serves is_fresh desks connections came before.history served.history before.keeper.faults served.keeper.faults old new
      → CallsEach before served → (came < connections → (summary ≡ Err ListenFailed) × (last ≡ served)) → (connections ≤ came → Settles summary served last)
      → (IsLegal served.history → IsLegal last.history) → Leaves serves is_fresh desks connections summary first last old heard
  leaves-of summary came before first served last old new heard same_book same_heard service calls few all legal =
      subst (λ (h : Heard P). Leaves serves is_fresh desks connections summary first last old h) (sym same_heard)
      (leaves summary came first served last old new
      (subst (λ (p : Pace). IsService serves is_fresh desks connections came p.history served.history p.keeper.faults served.keeper.faults old new) same_book service)
      (subst (λ (p : Pace). CallsEach p served) same_book calls) few all legal)

  pub leaves-heard : (summary : Result (String Global) End) (first last : Pace) (old mid new : Heard P) → mid ≡ old
      → Leaves serves is_fresh desks connections summary first last mid new → Leaves serves is_fresh desks connections summary first last old new
  leaves-heard summary first last old mid new same leaves =
      subst (λ (h : Heard P). Leaves serves is_fresh desks connections summary first last h new) same leaves

-- what was begun leaves a summary or none
module _ {Kt L P : Type 0} (tells may_leave : Kt → Tables → Type 0) (faults : Kt → ℕ) (plan : Kt → Option (List ℕ)) (calls : Kt → ℕ)
    (hears : L → Heard P) (serves : ℕ → ℕ → ℕ → List Deed → List Deed → List (Visit P) → Type 0) (is_fresh : P → Type 0) (desks connections : ℕ) where
  pub leaves-begun : (summary : Result (String Global) End) (keeper keeper' : Kt) (listener listener' : L)
      → IsBegun tells may_leave faults plan calls (λ first last. Leaves serves is_fresh desks connections summary first last (hears listener) (hears listener')) keeper keeper'
      → LeavesKept tells may_leave faults plan calls hears serves is_fresh desks connections summary keeper keeper' listener listener'
  leaves-begun (Ok text) keeper keeper' listener listener' begun = begun
  leaves-begun (Err end) keeper keeper' listener listener' begun = inr begun
