-- A batch over the ledger that a shelf has at a path.
use Rattle.std.specs.Prelude.{◌≡◌, ◌⊎◌, ℕ, Option, List}
use Rattle.stock_model.specs.History.{records, covered, IsLegal}
use Rattle.stock_keeper.specs.Calls.{IsDone}
use Rattle.stock_keeper.specs.Keeping.{Within}
use Rattle.stock_keeper.specs.declared.tables.Tables.{Tables}
use Rattle.kept_tables.specs.TablesOf.{tables_of}
use Rattle.repost_worker.specs.Openings.{state_of, opened_history, IsLoaded}
use Rattle.repost_worker.specs.Paces.{Pace, IsAtRest}
use Rattle.stock_ends.specs.Openings.{IsUnbegunFor, IsOpenedAs, IsPutBack, IsNotOpened}
use Rattle.stock_ends.specs.declared.end.End.{End}
use Rattle.stock_batch.specs.Ran.{Ran}

-- nothing was taken or written then, and the keeper tells no other tables
pub record IsUnbegun {Kt S O : Type 0} (tells : Kt → Tables → Type 0) (faults : Kt → ℕ) (plan : Kt → Option (List ℕ)) (calls : Kt → ℕ)
    (keeper_before keeper_after : Kt)
    (input_before input_after : S) (output_before output_after : O) (end : End) : Type 0 where
  pub nothing_taken : input_after ≡ input_before
  pub nothing_written : output_after ≡ output_before
  pub tables_kept : Within (tells keeper_before) (tells keeper_after)
  pub cause : IsUnbegunFor end (tells keeper_after) (state_of (faults keeper_before) (plan keeper_before) (calls keeper_before))
      (state_of (faults keeper_after) (plan keeper_after) (calls keeper_after))

-- or the lines were answered, from the history that its tables are of, once they were loaded, to the one that they are of then; the
-- worker began with what was covered and no turn
pub record IsRunKept {Kt S O : Type 0} (tells may_leave : Kt → Tables → Type 0) (faults : Kt → ℕ) (plan : Kt → Option (List ℕ)) (calls : Kt → ℕ)
    (left : S → Option (List ℕ)) (taken read_faults : S → ℕ) (written : O → Option (List ℕ)) (write_faults : O → ℕ)
    (keeper_before keeper_after : Kt) (input_before input_after : S) (output_before output_after : O) (end : End) : Type 0 where
  pub first : Pace
  pub last : Pace
  pub loaded : IsLoaded tells may_leave keeper_before first.history
  pub legal : IsLegal first.history
  pub order : first.history ≡ opened_history (records first.history) (covered first.history)
  pub at_rest : IsAtRest first
  pub begun : IsDone (state_of (faults keeper_before) (plan keeper_before) (calls keeper_before)) first.keeper
  pub kept : (t : Tables) → tells keeper_after t → t ≡ tables_of last.history
  pub plan_is : plan keeper_after ≡ last.keeper.plan
  pub faults_are : faults keeper_after ≡ last.keeper.faults
  pub ran : Ran left taken read_faults written write_faults input_before input_after output_before output_after first last end

abbrev pub RunsOverKeeper : {Kt S O : Type 0} (tells may_leave : Kt → Tables → Type 0) (faults : Kt → ℕ) (plan : Kt → Option (List ℕ)) (calls : Kt → ℕ)
    (left : S → Option (List ℕ)) (taken read_faults : S → ℕ) (written : O → Option (List ℕ)) (write_faults : O → ℕ)
    (keeper_before keeper_after : Kt) (input_before input_after : S) (output_before output_after : O) (end : End) → Type 0
RunsOverKeeper tells may_leave faults plan calls left taken read_faults written write_faults keeper_before keeper_after input_before input_after
    output_before output_after end =
    IsUnbegun tells faults plan calls keeper_before keeper_after input_before input_after output_before output_after end
    ⊎ IsRunKept tells may_leave faults plan calls left taken read_faults written write_faults keeper_before keeper_after input_before input_after
    output_before output_after end

-- it was not opened; or it was, and the lines were answered
pub record IsRunOver {H Kt S O : Type 0} (kept_tells : Kt → Tables → Type 0) (tells : H → Tables → Type 0) (plan : H → Option (List ℕ)) (kept_faults : H → ℕ)
    (left : S → Option (List ℕ)) (taken read_faults : S → ℕ) (written : O → Option (List ℕ)) (write_faults : O → ℕ)
    (shelf_before shelf_after : H) (input_before input_after : S) (output_before output_after : O) (end : End) : Type 0 where
  pub first : Pace
  pub last : Pace
  pub opened : IsOpenedAs kept_tells (tells shelf_before) (plan shelf_before) first
  pub put_back : IsPutBack (tells shelf_after) (plan shelf_after) (kept_faults shelf_after) last
  pub ran : Ran left taken read_faults written write_faults input_before input_after output_before output_after first last end

abbrev pub RunsOverShelf : {H Kt S O : Type 0} (kept_tells : Kt → Tables → Type 0) (tells : H → Tables → Type 0) (plan : H → Option (List ℕ)) (faults kept_faults : H → ℕ)
    (left : S → Option (List ℕ)) (taken read_faults : S → ℕ) (written : O → Option (List ℕ)) (write_faults : O → ℕ)
    (shelf_before shelf_after : H) (input_before input_after : S) (output_before output_after : O) (end : End) → Type 0
RunsOverShelf kept_tells tells plan faults kept_faults left taken read_faults written write_faults shelf_before shelf_after input_before input_after
    output_before output_after end =
    IsNotOpened kept_tells tells plan faults kept_faults shelf_before shelf_after input_before input_after output_before output_after end
    ⊎ IsRunOver kept_tells tells plan kept_faults left taken read_faults written write_faults shelf_before shelf_after input_before input_after
    output_before output_after end
