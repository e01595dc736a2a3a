-- The vouchers of a sheet are runs of rows: the rows of one come one after another, and have the same field `voucher`.
use Rattle.std.specs.Prelude.{Bool, List, [], ◌∷◌, bytes_eq, if◌then◌else◌}
use Rattle.voucher_import.specs.Rows.{Row, voucher_of}

-- whether two rows have the same field `voucher`
abbrev pub has_same_voucher : Row → Row → Bool
has_same_voucher row other = bytes_eq (voucher_of row) (voucher_of other)

-- The runs with one more row at their front. It is of the first run where it has the voucher of that one's first row.
unfoldable pub with_row : Row → List (List Row) → List (List Row)
with_row row [] = (row ∷ []) ∷ []
with_row row ([] ∷ runs) = (row ∷ []) ∷ [] ∷ runs
with_row row ((next ∷ run) ∷ runs) =
    if has_same_voucher row next then (row ∷ next ∷ run) ∷ runs
    else (row ∷ []) ∷ (next ∷ run) ∷ runs

-- the runs of rows, in order
unfoldable pub runs_of : List Row → List (List Row)
runs_of [] = []
runs_of (row ∷ rows) = with_row row (runs_of rows)
