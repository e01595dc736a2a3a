-- The vouchers of a sheet over the ledger that a shelf has at a path.
use Rattle.std.specs.Prelude.{◌≡◌, ◌⊎◌, ℕ, Option, List}
use Rattle.stock_model.specs.History.{records, covered, IsLegal}
use Rattle.stock_keeper.specs.Calls.{IsDone}
use Rattle.stock_keeper.specs.declared.tables.Tables.{Tables}
use Rattle.kept_tables.specs.TablesOf.{tables_of}
use Rattle.repost_worker.specs.Openings.{state_of, opened_history, IsLoaded}
use Rattle.repost_worker.specs.Paces.{Pace, IsAtRest}
use Rattle.voucher_import.specs.declared.sheet.SheetVoucher.{SheetVoucher}
use Rattle.stock_ends.specs.Openings.{IsOpenedAs, IsPutBack, IsNotOpened}
use Rattle.stock_ends.specs.declared.end.End.{End}
use Rattle.stock_batch.specs.Filed.{IsUnbegun}
use Rattle.stock_import.specs.Runs.{IsRun}

-- the vouchers were imported, from the history that the keeper's tables are of, once they were loaded, to the one that they are of
-- then; the worker began with what was covered and no turn
pub record IsKept {Kt O : Type 0} (tells may_leave : Kt → Tables → Type 0) (faults : Kt → ℕ) (plan : Kt → Option (List ℕ)) (calls : Kt → ℕ)
    (written : O → Option (List ℕ)) (write_faults : O → ℕ) (keeper_before keeper_after : Kt) (output_before output_after : O)
    (vouchers : List SheetVoucher) (end : End) : Type 0 where
  pub first : Pace
  pub last : Pace
  pub loaded : IsLoaded tells may_leave keeper_before first.history
  pub legal : IsLegal first.history
  pub order : first.history ≡ opened_history (records first.history) (covered first.history)
  pub at_rest : IsAtRest first
  pub begun : IsDone (state_of (faults keeper_before) (plan keeper_before) (calls keeper_before)) first.keeper
  pub kept : (t : Tables) → tells keeper_after t → t ≡ tables_of last.history
  pub plan_is : plan keeper_after ≡ last.keeper.plan
  pub faults_are : faults keeper_after ≡ last.keeper.faults
  pub ran : IsRun written write_faults output_before output_after first last vouchers end

-- or the keeper could not be begun with
abbrev pub ImportsOverKeeper : {Kt O : Type 0} (tells may_leave : Kt → Tables → Type 0) (faults : Kt → ℕ) (plan : Kt → Option (List ℕ)) (calls : Kt → ℕ)
    (written : O → Option (List ℕ)) (write_faults : O → ℕ) (keeper_before keeper_after : Kt) (output_before output_after : O)
    (vouchers : List SheetVoucher) (end : End) → Type 0
ImportsOverKeeper tells may_leave faults plan calls written write_faults keeper_before keeper_after output_before output_after vouchers end =
    IsUnbegun tells faults plan calls keeper_before keeper_after (tt {0}) (tt {0}) output_before output_after end
    ⊎ IsKept tells may_leave faults plan calls written write_faults keeper_before keeper_after output_before output_after vouchers end

-- the ledger was opened, and the vouchers were imported into it
pub record IsImportedOver {H Kt O : Type 0} (kept_tells : Kt → Tables → Type 0) (tells : H → Tables → Type 0) (plan : H → Option (List ℕ))
    (kept_faults : H → ℕ) (written : O → Option (List ℕ)) (write_faults : O → ℕ) (shelf_before shelf_after : H)
    (output_before output_after : O) (vouchers : List SheetVoucher) (end : End) : Type 0 where
  pub first : Pace
  pub last : Pace
  pub opened : IsOpenedAs kept_tells (tells shelf_before) (plan shelf_before) first
  pub put_back : IsPutBack (tells shelf_after) (plan shelf_after) (kept_faults shelf_after) last
  pub ran : IsRun written write_faults output_before output_after first last vouchers end

-- or it was not
abbrev pub ImportsOverShelf : {H Kt O : Type 0} (kept_tells : Kt → Tables → Type 0) (tells : H → Tables → Type 0) (plan : H → Option (List ℕ))
    (faults kept_faults : H → ℕ) (written : O → Option (List ℕ)) (write_faults : O → ℕ) (shelf_before shelf_after : H)
    (output_before output_after : O) (vouchers : List SheetVoucher) (end : End) → Type 0
ImportsOverShelf kept_tells tells plan faults kept_faults written write_faults shelf_before shelf_after output_before output_after vouchers end =
    IsNotOpened kept_tells tells plan faults kept_faults shelf_before shelf_after (tt {0}) (tt {0}) output_before output_after end
    ⊎ IsImportedOver kept_tells tells plan kept_faults written write_faults shelf_before shelf_after output_before output_after vouchers end
