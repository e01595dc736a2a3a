-- How a journal is kept: its records, their items and warehouses in a master, the units that they return, which record takes each
-- of them back and from which one on it is named, and up to which moment they close the past.
use Rattle.std.specs.Prelude.{◌≡◌, ℕ, zero, suc, ◌-◌, ◌<◌, ◌≤◌, Bool, true, nat_lt, List, length, take, Option, None, Some, IfSome, unwrap_or, slice_get, set}
use Rattle.item_master.specs.State.{MasterState}
use Rattle.stock_model.specs.declared.records.Record.{Record}
use Rattle.stock_model.specs.declared.vouchers.What.{What}
use Rattle.stock_model.specs.declared.vouchers.What.TheVariants.{Cancel}
use Rattle.stock_nums.specs.declared.limits.TheConstants.{MAX_RECORDS}
use Rattle.stock_nums.specs.LineSums.{number_of}
use Rattle.stock_nums.specs.declared.cause.Target.{Target}
use Rattle.stock_nums.specs.declared.line_sums.LineSums.{LineSums}
use Rattle.stock_nums.specs.declared.moment.Moment.{Moment}
use Rattle.stock_nums.specs.declared.numbers.RecordNo.{RecordNo}
use Rattle.stock_model.specs.Cancelling.{names_line_of}
use Rattle.stock_model.specs.Entries.{all_entries, is_live}
use Rattle.stock_model.specs.Freezing.{frozen}
use Rattle.stock_model.specs.Journals.{AreSound}
use Rattle.stock_model.specs.Masters.{items, stores, record_at}
use Rattle.stock_model.specs.Returns.{returned}
use Rattle.voucher_kinds.specs.ReturnedUnits.{HasRoom}

-- the items and the warehouses of a journal
abbrev pub master_of : List Record → MasterState
master_of journal = record { items = items journal; stores = stores journal }

-- none of the first n records is the one that takes back
abbrev pub is_later : ℕ → Option RecordNo → Bool
is_later n None = true
is_later n (Some by) = nat_lt n by.0

-- the record that is noted to take back the one with this number, from 1; none does so where there is no such one
abbrev pub taker : List (Option RecordNo) → ℕ → Option RecordNo
taker takers zero = None
taker takers (suc i) = unwrap_or (slice_get takers i) None

-- the notes where this is noted of the record that what is said takes back
abbrev pub noted_with : List (Option RecordNo) → What → Option RecordNo → List (Option RecordNo)
noted_with takers (Cancel cancelled) by = set takers (cancelled.0 - 1) by
noted_with takers _ by = takers

-- there is a note of the record that what is said takes back
abbrev pub HasNote : List (Option RecordNo) → What → Type 0
HasNote takers (Cancel cancelled) = (0 < cancelled.0) × (cancelled.0 ≤ length takers)
HasNote takers _ = Unit {0}

-- there is a note for each of the records, and it names the one that takes it back: it is in force as long as that one is not among
-- the first ones
pub record AreTakers (records : List Record) (takers : List (Option RecordNo)) : Type 0 where
  pub notes : length takers ≡ length records
  pub in_force : (n k : ℕ) → k ≤ length records → is_live (take k records) n ≡ is_later k (taker takers n)
  pub within : (n : ℕ) → IfSome (taker takers n) (λ by. by.0 ≤ length records)

-- what is noted is at a record, or before it
abbrev pub IsFrom : Option RecordNo → ℕ → Type 0
IsFrom None k = ⊥
IsFrom (Some first) k = first.0 ≤ k

-- nothing is noted later than it was
abbrev pub KeepsFirst : List (Option RecordNo) → List (Option RecordNo) → Type 0
KeepsFirst old new = (n k : ℕ) → IsFrom (taker old n) k → IsFrom (taker new n) k

-- there is a note for each of the records, and whatever names a line of it comes after it, and from the one on that is noted
pub record AreNamers (records : List Record) (namers : List (Option RecordNo)) : Type 0 where
  pub notes : length namers ≡ length records
  pub from : (n k : ℕ) (item : Record) → record_at records k ≡ Some item → names_line_of n item.what ≡ true
      → (0 < n) × (n < k) × IsFrom (taker namers n) k

-- the records are no more than a journal holds, none had a fault of its own at its place, the master has their items and
-- warehouses, the units that they return are counted and have room, it is noted of each which one takes it back, and the past is
-- closed up to the latest of their freezes
pub record IsJournal (records : List Record) (master : MasterState) (returned_units : LineSums) (takers : List (Option RecordNo)) (closed : Option Moment) : Type 0 where
  pub few : length records ≤ MAX_RECORDS
  pub master_is : master ≡ master_of records
  pub sound : AreSound records
  pub counted : (target : Target) → number_of returned_units target ≡ returned (all_entries records) target
  pub room : HasRoom records returned_units
  pub takers_are : AreTakers records takers
  pub closed_is : closed ≡ frozen records
