-- What an append and a publication make of tables, which numbers they may have, and what tables are at first and of which version.
use Rattle.std.specs.Prelude.{◌≡◌, ℕ, ℤ, pos, ◌+ℤ◌, ◌<ℤ◌, List, [], ◌∷◌, ◌++◌, length, ◌≤◌, if◌then◌else◌}
use Rattle.std.specs.Ordering.{int_eq}
use Rattle.stock_nums.specs.declared.numbers.RecordNo.{RecordNo}
use Rattle.stock_keeper.specs.Worths.{changed_worths}
use Rattle.stock_keeper.specs.declared.changes.Changes.{Changes}
use Rattle.stock_keeper.specs.declared.tables.StoredRecord.{StoredRecord}
use Rattle.stock_keeper.specs.declared.tables.Tables.{Tables}

-- the version of the tables that are written now
abbrev pub current_version : ℤ
current_version = pos 2

-- Tables of version 1 as those of the version that is written now, and tables of each other version as they are. The two differ in
-- nothing else: programs that write version 1 may not know records that close the past or take another back.
abbrev pub upgraded : Tables → Tables
upgraded tables =
    record tables { version = if int_eq tables.version (pos 1) then current_version else tables.version }

-- the tables in which nothing is kept yet
abbrev pub new_tables : Tables
new_tables = record { version = current_version; records = []; covered = pos 0; worths = [] }

-- a record as it is kept
abbrev pub stored : RecordNo → List ℕ → StoredRecord
stored number body = record { number = pos number.0; body = body }

-- the tables with one more record at the end
abbrev pub appended : RecordNo → List ℕ → Tables → Tables
appended number body tables = record tables { records = tables.records ++ stored number body ∷ [] }

-- the tables whose worths are changed so, and made from so many records
abbrev pub published : RecordNo → Changes → Tables → Tables
published covered changes tables =
    record tables { covered = pos covered.0; worths = changed_worths changes tables.worths }

-- the number of the last of these records, or of the one before them where there are none
abbrev pub last_number : ℤ → List StoredRecord → ℤ
last_number before [] = before
last_number before (r ∷ rs) = last_number r.number rs

-- the number follows that of the last record, and is 1 where there is none
abbrev pub Follows : Tables → RecordNo → Type 0
Follows tables number = pos number.0 ≡ last_number (pos 0) tables.records +ℤ pos 1

-- more records than before are covered
abbrev pub CoversMore : Tables → RecordNo → Type 0
CoversMore tables covered = tables.covered <ℤ pos covered.0

-- no more records are covered than there are
abbrev pub CoversRecords : Tables → RecordNo → Type 0
CoversRecords tables covered = covered.0 ≤ length tables.records
