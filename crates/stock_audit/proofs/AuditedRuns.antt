-- An audit by the keeper that the shelf handed out is one of the ledger that the shelf has.
use Rattle.std.proofs.Common.{◌≡◌, ℕ, List, Option, Some, IfSome, OnSome, inl, inr, ◌∙◌}
use Rattle.stock_keeper.specs.Calls.{KeeperState}
use Rattle.stock_keeper.specs.Keeping.{Within, TellSame}
use Rattle.stock_keeper.specs.declared.tables.Tables.{Tables}
use Rattle.repost_worker.specs.Openings.{state_of}
use Rattle.stock_ends.specs.declared.end.End.{End}
use Rattle.stock_ends.specs.declared.end.End.TheVariants.{Done, NoMemory, ReadFailed, WriteFailed, TooLong, StoreFailed, ListenFailed, BadSheet, Damaged}
use Rattle.stock_ends.proofs.Openings.{unopened}
use Rattle.stock_audit.specs.Audits.{AuditsOverShelf, IsUnauditedFor, IsUnloadedFor, KeepsAudited}

module _ {H Kt O : Type 0} (kept_tells : Kt → Tables → Type 0) (k_faults : Kt → ℕ) (k_plan : Kt → Option (List ℕ)) (k_calls : Kt → ℕ)
    (tells : H → Tables → Type 0) (plan : H → Option (List ℕ)) (faults kept_faults : H → ℕ)
    (written : O → Option (List ℕ)) (write_faults : O → ℕ) where
  unaudited : (keeper : Kt) (told : Tables → Type 0) → TellSame told (kept_tells keeper) → (end : End) (plan_told : Option (List ℕ)) (before after : ℕ)
      (old new : KeeperState) (back : ℕ) → old.faults ≡ 0 → back ≡ new.faults → IfSome plan_told (λ numbers. old.plan ≡ Some numbers)
      → OnSome plan_told (old.calls ≡ 0) → IsUnloadedFor end old new → IsUnauditedFor end plan_told before after back
  unaudited keeper told same NoMemory plan_told before after old new back fresh is planned uncalled cause = tt
  unaudited keeper told same StoreFailed plan_told before after old new back fresh is planned uncalled cause =
      unopened kept_tells keeper told same StoreFailed plan_told before after old new back fresh is planned uncalled cause
  unaudited keeper told same Done plan_told before after old new back fresh is planned uncalled cause = absurd cause
  unaudited keeper told same ReadFailed plan_told before after old new back fresh is planned uncalled cause = absurd cause
  unaudited keeper told same WriteFailed plan_told before after old new back fresh is planned uncalled cause = absurd cause
  unaudited keeper told same TooLong plan_told before after old new back fresh is planned uncalled cause = absurd cause
  unaudited keeper told same ListenFailed plan_told before after old new back fresh is planned uncalled cause = absurd cause
  unaudited keeper told same BadSheet plan_told before after old new back fresh is planned uncalled cause = absurd cause
  unaudited keeper told same (Damaged damage) plan_told before after old new back fresh is planned uncalled cause = absurd cause

  pub over-kept : (shelf shelf' : H) (keeper keeper' : Kt) (output output' : O) (end : End) → TellSame (tells shelf) (kept_tells keeper)
      → k_faults keeper ≡ 0 → IfSome (plan shelf) (λ numbers. k_plan keeper ≡ Some numbers) → OnSome (plan shelf) (k_calls keeper ≡ 0)
      → Within (kept_tells keeper') (tells shelf') → kept_faults shelf' ≡ k_faults keeper'
      → KeepsAudited kept_tells k_faults k_plan k_calls written write_faults keeper keeper' output output' end
      → AuditsOverShelf kept_tells tells plan faults kept_faults written write_faults shelf shelf' output output' end
  over-kept shelf shelf' keeper keeper' output output' end same fresh planned uncalled back counted (inl unloaded) =
      inl (record {
        nothing_written = unloaded.nothing_written;
        tables_stay = inr (λ s t before after. same s t before (unloaded.tables_kept t (back t after)));
        cause =
            unaudited keeper (tells shelf) same end (plan shelf) (faults shelf) (faults shelf') (state_of (k_faults keeper) (k_plan keeper) (k_calls keeper))
            (state_of (k_faults keeper') (k_plan keeper') (k_calls keeper')) (kept_faults shelf') fresh counted planned uncalled unloaded.cause;
      })
  over-kept shelf shelf' keeper keeper' output output' end same fresh planned uncalled back counted (inr judged) =
      inr (record {
        kept = keeper';
        copy = judged.copy;
        verdict_is = judged.verdict_is;
        same = λ s t before after. same s t before (judged.tables_kept t after);
        copied = judged.copied;
        judged = judged.judged;
        told = judged.told;
        tables_stay = inr (λ s t before after. same s t before (judged.tables_kept t (back t after)));
        fresh = counted ∙ judged.faults_kept ∙ fresh;
      })
