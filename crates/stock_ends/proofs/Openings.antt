-- A ledger is opened by the keeper that the shelf handed out, or it is not, for a cause of the keeper or of the shelf.
use Rattle.std.specs.Prelude.{Contains}
use Rattle.std.proofs.Common.{◌≡◌, ℕ, List, Option, Some, None, IfSome, OnSome, inl, inr, refl, sym, ap, ◌∙◌, subst, arith}
use Rattle.stock_io.specs.Counts.{Rose, raised}
use Rattle.stock_model.specs.History.{records, covered, IsLegal}
use Rattle.stock_keeper.specs.Calls.{KeeperState, IsDone}
use Rattle.stock_keeper.specs.Keeping.{TellSame}
use Rattle.stock_keeper.specs.declared.fault.KeepFault.{KeepFault}
use Rattle.stock_keeper.specs.declared.fault.KeepFault.TheVariants as keep
use Rattle.stock_keeper.specs.declared.tables.Tables.{Tables}
use Rattle.repost_worker.specs.Openings.{state_of, opened_history, IsLoaded}
use Rattle.repost_worker.specs.Paces.{Pace, IsAtRest}
use Rattle.stock_ends.specs.Openings.{end_of_refusal, HasFirst, IsUnopened, IsUnbegunFor, IsOpenedAs}
use Rattle.stock_ends.specs.declared.end.End.{End}
use Rattle.stock_ends.specs.declared.end.End.TheVariants.{Done, NoMemory, ReadFailed, WriteFailed, TooLong, StoreFailed, ListenFailed, BadSheet, Damaged}

-- the keeper has the plan that the shelf told
pub opened-plan : (told kept first : Option (List ℕ)) → IfSome told (λ numbers. kept ≡ Some numbers) → first ≡ kept
    → IfSome told (λ numbers. first ≡ Some numbers)
opened-plan None kept first plan same = tt
opened-plan (Some numbers) kept first plan same = same ∙ plan

-- and was called once
opened-calls : (told kept : Option (List ℕ)) (before after : ℕ) → IfSome told (λ numbers. kept ≡ Some numbers) → OnSome told (before ≡ 0)
    → OnSome kept (after ≡ raised before) → IfSome told (λ numbers. after ≡ 1)
opened-calls None kept before after plan none counted = tt
opened-calls (Some numbers) kept before after plan none counted =
    subst (λ (p : Option (List ℕ)). OnSome p (after ≡ raised before)) plan counted ∙ ap raised none

-- the book was opened by the first call of the keeper that the shelf handed out
pub opened-as : {Kt : Type 0} (kept_tells : Kt → Tables → Type 0) (keeper : Kt) (told : Tables → Type 0) (plan kept_plan : Option (List ℕ))
    (kept_may_leave : Kt → Tables → Type 0) (faults calls : ℕ) (first : Pace) → TellSame told (kept_tells keeper)
    → IfSome plan (λ numbers. kept_plan ≡ Some numbers)
    → OnSome plan (calls ≡ 0) → IsLoaded kept_tells kept_may_leave keeper first.history → IsLegal first.history
    → first.history ≡ opened_history (records first.history) (covered first.history) → IsAtRest first
    → IsDone (state_of faults kept_plan calls) first.keeper → IsOpenedAs kept_tells told plan first
opened-as kept_tells keeper told plan kept_plan kept_may_leave faults calls first same planned uncalled loaded legal order at_rest begun =
    record {
      kept = loaded.loaded;
      same = λ s t before after. same s t before (loaded.tables_kept t after);
      tables = loaded.tables;
      legal = legal;
      order = order;
      at_rest = at_rest;
      plan_is = opened-plan plan kept_plan first.keeper.plan planned begun.count.plan_kept;
      calls = opened-calls plan kept_plan calls first.keeper.calls planned uncalled begun.count.counted;
    }

-- the first call of a keeper that was not called yet is planned
has-first : (told kept : Option (List ℕ)) (calls : ℕ) → IfSome told (λ numbers. kept ≡ Some numbers) → OnSome told (calls ≡ 0)
    → IfSome kept (λ numbers. Contains numbers (raised calls)) → HasFirst told
has-first None kept calls plan none planned = tt
has-first (Some numbers) kept calls plan none planned =
    subst (λ (n : ℕ). Contains numbers (raised n)) none
    (subst (λ (p : Option (List ℕ)). IfSome p (λ ns. Contains ns (raised calls))) plan planned)

pub unopened : {Kt : Type 0} (kept_tells : Kt → Tables → Type 0) (keeper : Kt) (told : Tables → Type 0) → TellSame told (kept_tells keeper)
    → (end : End) (plan : Option (List ℕ)) (faults faults' : ℕ) (old new : KeeperState) (back : ℕ) → old.faults ≡ 0 → back ≡ new.faults
    → IfSome plan (λ numbers. old.plan ≡ Some numbers) → OnSome plan (old.calls ≡ 0)
    → IsUnbegunFor end (kept_tells keeper) old new → IsUnopened kept_tells end told plan faults faults' back
unopened kept_tells keeper told same NoMemory plan faults faults' old new back fresh is planned uncalled cause = tt
unopened kept_tells keeper told same StoreFailed plan faults faults' old new back fresh is planned uncalled cause =
    let rose : Rose 0 back = λ few. omega (arith, fresh, is, cause.fault (omega (arith, few, is))) in
    inr (rose, has-first plan old.plan old.calls planned uncalled cause.planned)
unopened kept_tells keeper told same (Damaged damage) plan faults faults' old new back fresh is planned uncalled cause = (keeper, same, cause)
unopened kept_tells keeper told same Done plan faults faults' old new back fresh is planned uncalled cause = absurd cause
unopened kept_tells keeper told same ReadFailed plan faults faults' old new back fresh is planned uncalled cause = absurd cause
unopened kept_tells keeper told same WriteFailed plan faults faults' old new back fresh is planned uncalled cause = absurd cause
unopened kept_tells keeper told same TooLong plan faults faults' old new back fresh is planned uncalled cause = absurd cause
unopened kept_tells keeper told same ListenFailed plan faults faults' old new back fresh is planned uncalled cause = absurd cause
unopened kept_tells keeper told same BadSheet plan faults faults' old new back fresh is planned uncalled cause = absurd cause

-- the shelf refused to open a keeper
pub unopened-refused : {Kt : Type 0} (kept_tells : Kt → Tables → Type 0) (told : Tables → Type 0) (plan : Option (List ℕ))
    (faults faults' kept_faults : ℕ) (fault : KeepFault) (end : End) → end ≡ end_of_refusal fault
    → (fault ≡ keep.Failed → Rose faults faults') → IsUnopened kept_tells end told plan faults faults' kept_faults
unopened-refused kept_tells told plan faults faults' kept_faults keep.Failed end is cause =
    subst (λ (e : End). IsUnopened kept_tells e told plan faults faults' kept_faults) (sym is) (inl (cause refl))
unopened-refused kept_tells told plan faults faults' kept_faults keep.NoMemory end is cause =
    subst (λ (e : End). IsUnopened kept_tells e told plan faults faults' kept_faults) (sym is) tt
