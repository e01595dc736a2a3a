-- The rows of a sheet, and their columns.
use Rattle.std.specs.Prelude.{ℕ, List, [], ◌∷◌, get_or, codes}
use Rattle.csv.specs.Reading.{default_config, records, strip_bom}

-- the fields of a row
abbrev pub Row : Type 0
Row = List (List ℕ)

-- the rows of a text with commas between fields and quotes around some; a byte order mark at its beginning is left out
abbrev pub rows_of : List ℕ → List Row
rows_of text = records default_config (strip_bom text)

-- the first row: the names of the columns
abbrev pub head_row : Row
head_row = codes "voucher" ∷ codes "do" ∷ codes "at" ∷ codes "item" ∷ codes "store" ∷ codes "to" ∷ codes "qty" ∷ codes "amount" ∷ []

-- the fields by their columns
abbrev pub voucher_of : Row → List ℕ
voucher_of row = get_or row 0 []

abbrev pub do_of : Row → List ℕ
do_of row = get_or row 1 []

abbrev pub at_of : Row → List ℕ
at_of row = get_or row 2 []

abbrev pub item_of : Row → List ℕ
item_of row = get_or row 3 []

abbrev pub store_of : Row → List ℕ
store_of row = get_or row 4 []

abbrev pub to_of : Row → List ℕ
to_of row = get_or row 5 []

abbrev pub qty_of : Row → List ℕ
qty_of row = get_or row 6 []

abbrev pub amount_of : Row → List ℕ
amount_of row = get_or row 7 []
