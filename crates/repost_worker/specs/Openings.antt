-- What the opening of a ledger comes to: which records are posted again, which fault is told, and which calls its keeper had.
use Rattle.std.specs.Prelude.{ℕ, ◌≡◌, ◌⊎◌, ◌+◌, List, [], ◌∷◌, ◌++◌, length, take, drop, map, Option, None}
use Rattle.stock_model.specs.Faults.{fault}
use Rattle.stock_model.specs.History.{records, accepted}
use Rattle.stock_model.specs.declared.deeds.Deed.{Deed}
use Rattle.stock_model.specs.declared.deeds.Deed.TheVariants.{Kept}
use Rattle.stock_model.specs.declared.records.Record.{Record}
use Rattle.stock_keeper.specs.Calls.{KeeperState, IsDone, IsRefused}
use Rattle.stock_keeper.specs.Changed.{stored}
use Rattle.stock_keeper.specs.Keeping.{Within}
use Rattle.stock_keeper.specs.declared.fault.KeepFault.TheVariants as keep
use Rattle.stock_keeper.specs.declared.tables.StoredRecord.{StoredRecord}
use Rattle.stock_keeper.specs.declared.tables.Tables.{Tables}
use Rattle.voucher_json.specs.RecordTexts.{record_text}
use Rattle.kept_tables.specs.Openings.{IsBadRecord, IsBadStored, IsFaultOf, opening}
use Rattle.kept_tables.specs.TablesOf.{tables_of}
use Rattle.kept_tables.specs.declared.open_fault.OpenFault.{OpenFault}
use Rattle.kept_tables.specs.declared.open_fault.OpenFault.TheVariants.{KeeperFailed, BadStored, NoMemory}

-- what a keeper tells of its calls
abbrev pub state_of : ℕ → Option (List ℕ) → ℕ → KeeperState
state_of faults plan calls = record { faults = faults; plan = plan; calls = calls }

-- the record that is kept so was posted
pub record IsPosted (old : List Deed) (kept : StoredRecord) (new : List Deed) : Type 0 where
  pub item : Record
  pub sound : fault (records old) item ≡ None
  pub is : kept ≡ stored (record { 0 = accepted old + 1 }) (record_text item)
  pub grows : new ≡ old ++ Kept item ∷ []

-- the history of a ledger that was opened: the first so many of these records were kept and covered, by one publication where
-- there are some, and then the others were kept
abbrev pub opened_history : List Record → ℕ → List Deed
opened_history items covered = opening (take covered items) covered ++ map Kept (drop covered items)

-- the tables that the keeper tells once they are loaded are those of the history, and those that it told before, as where they were
-- told before and a crash may leave them still; where a disk lied while it was read, none are
pub record IsLoaded {Kt : Type 0} (tells may_leave : Kt → Tables → Type 0) (before : Kt) (history : List Deed) : Type 0 where
  pub loaded : Kt
  pub tables_kept : Within (tells before) (tells loaded)
  pub tables : (t : Tables) → tells loaded t → t ≡ tables_of history
  pub left : (t : Tables) → tells before t → may_leave loaded t → t ≡ tables_of history

-- memory was wanting, or no record that may come next is kept so
abbrev pub IsBadNext : List Record → StoredRecord → OpenFault → Type 0
IsBadNext journal kept f = (f ≡ NoMemory) ⊎ ((f ≡ BadStored (length journal + 1)) × IsBadRecord journal kept)

-- memory was wanting, or this is told of a bad stored record
abbrev pub IsUnposted : Tables → OpenFault → Type 0
IsUnposted t f = (f ≡ NoMemory) ⊎ ((n : ℕ) × (f ≡ BadStored n) × IsBadStored n t)

-- the tables have this fault, or memory was wanting
abbrev pub IsFoundIn : Tables → OpenFault → Type 0
IsFoundIn t KeeperFailed = ⊥
IsFoundIn t f = IsFaultOf t f

-- the keeper was called once, and refused the call so, or gave the tables in which the fault is
abbrev pub IsAfterFault : OpenFault → KeeperState → KeeperState → Type 0
IsAfterFault KeeperFailed old new = IsRefused keep.Failed old new
IsAfterFault NoMemory old new = IsRefused keep.NoMemory old new
IsAfterFault f old new = IsDone old new
