-- Records and worths that have the rows of others are those.
use Rattle.std.proofs.Common.{◌≡◌, List, [], ◌∷◌, map, refl, ap, ◌∙◌}
use Rattle.sqlite_value.specs.Order.{Row}
use Rattle.stock_keeper.specs.declared.changes.SpotWorth.{SpotWorth}
use Rattle.stock_keeper.specs.declared.tables.StoredRecord.{StoredRecord}
use Rattle.stock_keeper.specs.declared.tables.Tables.{Tables}
use Rattle.sqlite_tables.specs.Rows.{record_row, spot_row, worth_row, record_columns, worth_columns, AreRecordsOf, AreWorthsOf}
use Rattle.sqlite_tables.proofs.WorthLaw.{spot_row-same}

record_same : (a b : StoredRecord) → record_row a ≡ record_row b → a ≡ b
record_same a b h =
    let number : a.number ≡ b.number = cc in
    let body : a.body ≡ b.body = cc in
    λ i. record { number = number i; body = body i }

pub records_same : (xs ys : List StoredRecord) → map record_row xs ≡ map record_row ys → xs ≡ ys
records_same [] [] h = refl
records_same [] (y ∷ ys) h = absurd cc
records_same (x ∷ xs) [] h = absurd cc
records_same (x ∷ xs) (y ∷ ys) h =
    let first : record_row x ≡ record_row y = cc in
    let head = record_same x y first in
    let tail = records_same xs ys (cc) in
    λ i. head i ∷ tail i

pub worth_same : (a b : SpotWorth) → worth_row a ≡ worth_row b → a ≡ b
worth_same a b h =
    let spots : spot_row a.spot ≡ spot_row b.spot = cc in
    let spot = spot_row-same a.spot b.spot spots in
    let value : a.worth.value.0 ≡ b.worth.value.0 = cc in
    let share : a.worth.share.0 ≡ b.worth.share.0 = cc in
    λ i. record { spot = spot i; worth = record { value = record { 0 = value i }; share = record { 0 = share i } } }

pub worths_same : (xs ys : List SpotWorth) → map worth_row xs ≡ map worth_row ys → xs ≡ ys
worths_same [] [] h = refl
worths_same [] (y ∷ ys) h = absurd cc
worths_same (x ∷ xs) [] h = absurd cc
worths_same (x ∷ xs) (y ∷ ys) h =
    let first : worth_row x ≡ worth_row y = cc in
    let head = worth_same x y first in
    let tail = worths_same xs ys (cc) in
    λ i. head i ∷ tail i

record_columns_are : (xs : List StoredRecord) → map record_columns (map record_row xs) ≡ map record_row xs
record_columns_are [] = refl
record_columns_are (x ∷ xs) = ap (λ l. record_row x ∷ l) (record_columns_are xs)

worth_columns_are : (xs : List SpotWorth) → map worth_columns (map worth_row xs) ≡ map worth_row xs
worth_columns_are [] = refl
worth_columns_are (x ∷ xs) = ap (λ l. worth_row x ∷ l) (worth_columns_are xs)

pub records_read : (rows : List Row) (xs ys : List StoredRecord) → rows ≡ map record_row ys → AreRecordsOf rows xs → xs ≡ ys
records_read rows xs ys shown h = records_same xs ys (h ∙ ap (map record_columns) shown ∙ record_columns_are ys)

pub worths_read : (rows : List Row) (xs ys : List SpotWorth) → rows ≡ map worth_row ys → AreWorthsOf rows xs → xs ≡ ys
worths_read rows xs ys shown h = worths_same xs ys (h ∙ ap (map worth_columns) shown ∙ worth_columns_are ys)

pub tables_same : (a b : Tables) → a.version ≡ b.version → a.records ≡ b.records → a.covered ≡ b.covered → a.worths ≡ b.worths → a ≡ b
tables_same a b version records covered worths = λ i. record { version = version i; records = records i; covered = covered i; worths = worths i }
