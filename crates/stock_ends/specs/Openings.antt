-- How the ledger that a shelf has at a path is opened, or why it is not, and how it is put back.
use Rattle.std.specs.Prelude.{◌≡◌, ◌⊎◌, ℕ, Option, Some, List, IfSome, Contains}
use Rattle.stock_io.specs.Counts.{Rose}
use Rattle.stock_model.specs.History.{records, covered, IsLegal}
use Rattle.stock_keeper.specs.Calls.{KeeperState, IsFailed}
use Rattle.stock_keeper.specs.Keeping.{Within, TellSame}
use Rattle.stock_keeper.specs.declared.fault.KeepFault.{KeepFault}
use Rattle.stock_keeper.specs.declared.fault.KeepFault.TheVariants as keep
use Rattle.stock_keeper.specs.declared.tables.Tables.{Tables}
use Rattle.kept_tables.specs.TablesOf.{tables_of}
use Rattle.kept_tables.specs.declared.open_fault.OpenFault.{OpenFault}
use Rattle.kept_tables.specs.declared.open_fault.OpenFault.TheVariants as open_fault
use Rattle.repost_worker.specs.Openings.{opened_history}
use Rattle.repost_worker.specs.Paces.{Pace, IsAtRest}
use Rattle.stock_ends.specs.Damages.{HasDamage}
use Rattle.stock_ends.specs.declared.damage.Damage.TheVariants.{Head, Record, Worth}
use Rattle.stock_ends.specs.declared.end.End.{End}
use Rattle.stock_ends.specs.declared.end.End.TheVariants.{NoMemory, StoreFailed, Damaged}

-- a plan that is told has the first call
abbrev pub HasFirst : Option (List ℕ) → Type 0
HasFirst plan = IfSome plan (λ numbers. Contains numbers 1)

-- an end before the first read: the file could not be opened, or memory was wanting
abbrev pub IsUnopened : {Kt : Type 0} → (Kt → Tables → Type 0) → End → (Tables → Type 0) → Option (List ℕ) → ℕ → ℕ → ℕ → Type 0
IsUnopened kept_tells NoMemory told plan faults faults' kept_faults' = Unit {0}
-- the shelf counted a fault, or the keeper that is back on it, of which the plan that the shelf tells has the first call
IsUnopened kept_tells StoreFailed told plan faults faults' kept_faults' = Rose faults faults' ⊎ (Rose 0 kept_faults' × HasFirst plan)
-- the keeper that was handed out tells tables, once they were loaded, that are damaged so, which are those of the shelf, where both
-- tell them
IsUnopened {Kt} kept_tells (Damaged damage) told plan faults faults' kept_faults' =
    (kept : Kt) × TellSame told (kept_tells kept) × ((t : Tables) → kept_tells kept t → HasDamage t damage)
IsUnopened kept_tells end told plan faults faults' kept_faults' = ⊥

-- the book was opened over a keeper whose tables, once they were loaded, are those of its history, and those of the shelf, where both
-- tell them, by the first call of the keeper, which has the plan that the shelf tells; and the worker begins with what is covered
-- and no turn
pub record IsOpenedAs {Kt : Type 0} (kept_tells : Kt → Tables → Type 0) (told : Tables → Type 0) (plan : Option (List ℕ)) (first : Pace) : Type 0 where
  pub kept : Kt
  pub same : TellSame told (kept_tells kept)
  pub tables : (t : Tables) → kept_tells kept t → t ≡ tables_of first.history
  pub legal : IsLegal first.history
  pub order : first.history ≡ opened_history (records first.history) (covered first.history)
  pub at_rest : IsAtRest first
  pub plan_is : IfSome plan (λ numbers. first.keeper.plan ≡ Some numbers)
  pub calls : IfSome plan (λ numbers. first.keeper.calls ≡ 1)

-- the keeper that is back on the shelf has the tables of the last history, its faults, and the plan that the shelf tells then
pub record IsPutBack (told : Tables → Type 0) (plan : Option (List ℕ)) (kept_faults : ℕ) (last : Pace) : Type 0 where
  pub tables : (t : Tables) → told t → t ≡ tables_of last.history
  pub plan_is : IfSome plan (λ numbers. last.keeper.plan ≡ Some numbers)
  pub faults : kept_faults ≡ last.keeper.faults

-- how a run ends over tables with this fault
abbrev pub end_of : OpenFault → End
end_of open_fault.KeeperFailed = StoreFailed
end_of (open_fault.BadHead version covered records) = Damaged Head
end_of (open_fault.BadStored number) = Damaged (Record number)
end_of (open_fault.StoredDiffers difference) = Damaged (Worth difference.spot)
end_of open_fault.NoMemory = NoMemory

-- and how one ends where the shelf or its keeper refuses a call for this
abbrev pub end_of_refusal : KeepFault → End
end_of_refusal keep.Failed = StoreFailed
end_of_refusal keep.NoMemory = NoMemory

-- a keeper could not be begun with: its first call failed, what it tells is damaged so, or memory was wanting
abbrev pub IsUnbegunFor : End → (Tables → Type 0) → KeeperState → KeeperState → Type 0
IsUnbegunFor NoMemory told old new = Unit {0}
IsUnbegunFor StoreFailed told old new = IsFailed old new
IsUnbegunFor (Damaged damage) told old new = (t : Tables) → told t → HasDamage t damage
IsUnbegunFor end told old new = ⊥

-- the tables stay: no others are told than before, or those that are told are those that were told
abbrev pub TablesStay : (Tables → Type 0) → (Tables → Type 0) → Type 0
TablesStay before after = Within before after ⊎ TellSame before after

-- it was not opened, nothing was taken or written, and the tables of the shelf stay
pub record IsNotOpened {H Kt S O : Type 0} (kept_tells : Kt → Tables → Type 0) (tells : H → Tables → Type 0) (plan : H → Option (List ℕ)) (faults kept_faults : H → ℕ) (shelf_before shelf_after : H)
    (input_before input_after : S) (output_before output_after : O) (end : End) : Type 0 where
  pub nothing_taken : input_after ≡ input_before
  pub nothing_written : output_after ≡ output_before
  pub tables_stay : TablesStay (tells shelf_before) (tells shelf_after)
  pub cause : IsUnopened kept_tells end (tells shelf_before) (plan shelf_before) (faults shelf_before) (faults shelf_after) (kept_faults shelf_after)
