-- How records, worths and the head stand in rows.
use Rattle.std.specs.Prelude.{◌≡◌, ℤ, pos, List, map, IsPermutation, [], ◌∷◌}
use Rattle.sqlite_value.specs.declared.value.Value.TheVariants.{Int, Blob}
use Rattle.sqlite_value.specs.Order.{Row, column}
use Rattle.stock_nums.specs.Places.{side_rank}
use Rattle.stock_nums.specs.declared.place.Spot.{Spot}
use Rattle.stock_keeper.specs.declared.changes.SpotWorth.{SpotWorth}
use Rattle.stock_keeper.specs.declared.tables.StoredRecord.{StoredRecord}
use Rattle.stock_keeper.specs.declared.tables.Tables.{Tables}

-- what is written of a record, and what is shown of it
abbrev pub record_row : StoredRecord → Row
record_row r = Int r.number ∷ Blob r.body ∷ []

-- the side is 0 of what leaves and 1 of what enters
abbrev pub spot_row : Spot → Row
spot_row s = Int (pos s.voucher.0) ∷ Int (pos s.line) ∷ Int (pos (side_rank s.side)) ∷ []

abbrev pub worth_row : SpotWorth → Row
worth_row w =
    Int (pos w.spot.voucher.0) ∷ Int (pos w.spot.line) ∷ Int (pos (side_rank w.spot.side)) ∷ Int w.worth.value.0 ∷ Int w.worth.share.0 ∷ []

abbrev pub head_row : Tables → Row
head_row t = Int t.version ∷ Int t.covered ∷ []

-- A stored row has its rowid first and then its columns. A column that the rowid stands for is NULL there.
abbrev pub record_cells : Row → Row
record_cells r = column r 0 ∷ column r 2 ∷ []

abbrev pub spot_cells : Row → Row
spot_cells r = column r 1 ∷ column r 2 ∷ column r 3 ∷ []

abbrev pub worth_cells : Row → Row
worth_cells r = column r 1 ∷ column r 2 ∷ column r 3 ∷ column r 4 ∷ column r 5 ∷ []

abbrev pub head_cells : Row → Row
head_cells r = column r 0 ∷ column r 2 ∷ column r 3 ∷ []

-- A row that a query shows is that of a record, and of a worth, in its first columns.
abbrev pub IsRecordOf : Row → StoredRecord → Type 0
IsRecordOf row r = (column row 0 ≡ Int r.number) × (column row 1 ≡ Blob r.body)

pub record IsWorthOf (row : Row) (w : SpotWorth) : Type 0 where
  pub voucher : column row 0 ≡ Int (pos w.spot.voucher.0)
  pub line : column row 1 ≡ Int (pos w.spot.line)
  pub side : column row 2 ≡ Int (pos (side_rank w.spot.side))
  pub value : column row 3 ≡ Int w.worth.value.0
  pub share : column row 4 ≡ Int w.worth.share.0

-- it has the version and then how many records are covered
abbrev pub IsHeadOf : Row → ℤ → ℤ → Type 0
IsHeadOf row version covered = (column row 0 ≡ Int version) × (column row 1 ≡ Int covered)

-- the columns of a row that a record is read from, and a worth
abbrev pub record_columns : Row → Row
record_columns row = column row 0 ∷ column row 1 ∷ []

abbrev pub worth_columns : Row → Row
worth_columns row = column row 0 ∷ column row 1 ∷ column row 2 ∷ column row 3 ∷ column row 4 ∷ []

-- these are the records of all the rows, in order, and these the worths
abbrev pub AreRecordsOf : List Row → List StoredRecord → Type 0
AreRecordsOf rows records = map record_row records ≡ map record_columns rows

abbrev pub AreWorthsOf : List Row → List SpotWorth → Type 0
AreWorthsOf rows worths = map worth_row worths ≡ map worth_columns rows

-- the worths of these rows, in some order
abbrev pub AreSortedOf : List Row → List SpotWorth → Type 0
AreSortedOf rows worths = (read : List SpotWorth) × AreWorthsOf rows read × IsPermutation read worths
