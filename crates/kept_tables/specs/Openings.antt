-- Which tables are opened and as which history, and which fault of them is told.
use Rattle.std.specs.Prelude.{ℕ, ◌≡◌, ◌≢◌, ◌⊎◌, ◌+◌, ◌-◌, ◌^◌, ◌<◌, ◌≤◌, pos, ◌<ℤ◌, min, nat_lt, if◌then◌else◌, List, [], ◌∷◌, ◌++◌, length, map, take, slice_get, Some, None, All, IsUtf8}
use Rattle.stock_model.specs.Faults.{fault}
use Rattle.stock_model.specs.Journals.{AreLegal}
use Rattle.stock_model.specs.Replay.{replay}
use Rattle.stock_model.specs.declared.deeds.Deed.{Deed}
use Rattle.stock_model.specs.declared.deeds.Deed.TheVariants.{Kept, Published}
use Rattle.stock_model.specs.declared.records.Record.{Record}
use Rattle.stock_keeper.specs.Changed.{current_version, stored}
use Rattle.stock_keeper.specs.declared.tables.StoredRecord.{StoredRecord}
use Rattle.stock_keeper.specs.declared.tables.Tables.{Tables}
use Rattle.voucher_json.specs.RecordTexts.{record_text}
use Rattle.kept_tables.specs.Differences.{worth_at, IsFirstDifference}
use Rattle.kept_tables.specs.TablesOf.{stored_from, worths_of}
use Rattle.kept_tables.specs.declared.differing.Difference.{Difference}
use Rattle.kept_tables.specs.declared.open_fault.OpenFault.{OpenFault}
use Rattle.kept_tables.specs.declared.open_fault.OpenFault.TheVariants.{KeeperFailed, BadHead, BadStored, StoredDiffers, NoMemory}

-- the text of each of these records is UTF-8
abbrev pub AreUtf8 : List Record → Type 0
AreUtf8 items = All (λ item. IsUtf8 (record_text item)) items

-- these records, each without a fault at its place, are stored first
abbrev pub AreStored : List Record → Tables → Type 0
AreStored items t = AreLegal items × (stored_from 1 items ≡ take (length items) t.records)

-- these are all that are stored
abbrev pub IsAllStored : List Record → Tables → Type 0
IsAllStored items t = AreStored items t × (length items ≡ length t.records)

-- the version is not the one that is written, or no such number of records is covered
abbrev pub HasBadHead : Tables → Type 0
HasBadHead t = (t.version ≢ current_version) ⊎ ((t.covered <ℤ pos 0) ⊎ (pos (length t.records) <ℤ t.covered))

-- the number of records, as a fault tells it
abbrev pub told_records : Tables → ℕ
told_records t = min (length t.records) (2 ^ 32 - 1)

-- no record that has no fault after this journal is kept as this
abbrev pub IsBadRecord : List Record → StoredRecord → Type 0
IsBadRecord journal kept = (item : Record) → fault journal item ≡ None → IsUtf8 (record_text item)
    → kept ≢ stored (record { 0 = length journal + 1 }) (record_text item)

-- the first stored record that is none of a legal history has this number by its place
abbrev pub IsBadStored : ℕ → Tables → Type 0
IsBadStored n t = (items : List Record) × AreStored items t × (n ≡ length items + 1) × (length items < length t.records)
    × ((kept : StoredRecord) → slice_get t.records (length items) ≡ Some kept → IsBadRecord items kept)

-- the stored worths are not those of the records that are covered, and this is the first difference
abbrev pub DiffersAt : Tables → Difference → Type 0
DiffersAt t d = (items : List Record) × IsAllStored items t × (c : ℕ) × (t.covered ≡ pos c)
    × IsFirstDifference t.worths (worths_of (replay (take c items))) d.spot
    × (d.stored ≡ worth_at t.worths d.spot)
    × (d.replayed ≡ worth_at (worths_of (replay (take c items))) d.spot)

-- the tables have this fault; that a keeper failed, or that memory was wanting, says nothing of them
abbrev pub IsFaultOf : Tables → OpenFault → Type 0
IsFaultOf t KeeperFailed = Unit {0}
IsFaultOf t (BadHead version covered records) =
    HasBadHead t × (version ≡ t.version) × (covered ≡ t.covered) × (records ≡ told_records t)
IsFaultOf t (BadStored n) = (HasBadHead t → ⊥) × IsBadStored n t
IsFaultOf t (StoredDiffers d) = (HasBadHead t → ⊥) × DiffersAt t d
IsFaultOf t NoMemory = Unit {0}

-- the history that tables are opened as: all records were kept, and then the first so many were covered, if any
abbrev pub opening : List Record → ℕ → List Deed
opening items covered = map Kept items ++ (if nat_lt 0 covered then Published (record { 0 = covered }) ∷ [] else [])

-- the tables are opened as these records, the first so many of them covered
abbrev pub IsOpened : Tables → List Record → ℕ → Type 0
IsOpened t items covered = IsAllStored items t × (t.version ≡ current_version) × (t.covered ≡ pos covered)
    × (covered ≤ length items) × (t.worths ≡ worths_of (replay (take covered items)))
