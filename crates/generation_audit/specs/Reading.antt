-- What the reading of stored records comes to.
use Rattle.std.specs.Prelude.{◌≡◌, ◌+◌, List, [], ◌∷◌, ◌++◌, length, None}
use Rattle.stock_model.specs.Faults.{fault}
use Rattle.stock_model.specs.declared.records.Record.{Record}
use Rattle.stock_keeper.specs.Changed.{stored}
use Rattle.stock_keeper.specs.declared.tables.StoredRecord.{StoredRecord}
use Rattle.stock_keeper.specs.declared.tables.Tables.{Tables}
use Rattle.voucher_json.specs.RecordTexts.{record_text}
use Rattle.kept_tables.specs.Openings.{IsBadRecord, IsBadStored}
use Rattle.generation_audit.specs.declared.reading.Unread.{Unread}
use Rattle.generation_audit.specs.declared.reading.Unread.TheVariants.{Bad, NoMemory}

-- the record that is stored so was read as the next one
pub record IsReadAs (old : List Record) (kept : StoredRecord) (new : List Record) : Type 0 where
  pub item : Record
  pub sound : fault old item ≡ None
  pub is : kept ≡ stored (record { 0 = length old + 1 }) (record_text item)
  pub grows : new ≡ old ++ item ∷ []

-- memory was wanting, or no record that may come next is stored so
abbrev pub IsBadNext : List Record → StoredRecord → Unread → Type 0
IsBadNext journal kept NoMemory = Unit {0}
IsBadNext journal kept (Bad n) = (n ≡ length journal + 1) × IsBadRecord journal kept

-- memory was wanting, or this is the number of the first bad stored record
abbrev pub IsUnread : Tables → Unread → Type 0
IsUnread t NoMemory = Unit {0}
IsUnread t (Bad n) = IsBadStored n t
