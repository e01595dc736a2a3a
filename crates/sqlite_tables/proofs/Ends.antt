-- A row with a rowid above all others is put at the end.
use Rattle.std.proofs.Common.{◌≡◌, ℤ, pos, ◌+ℤ◌, List, [], ◌∷◌, ◌++◌, map, Less, refl, sym, ap, ◌∙◌, arith}
use Rattle.std.specs.List.{AllByRecursion}
use Rattle.std.specs.Ordering.{int_cmp}
use Rattle.std.specs.Cmp.{int_cmp_is}
use Rattle.std.proofs.lemmas.Int.{ints}
use Rattle.sqlite_value.specs.declared.value.Value.TheVariants.{Int}
use Rattle.sqlite_value.specs.Order.{Row, column, value_cmp}
use Rattle.sqlite_value.proofs.OrderLemmas.{value_cmp_total, value_cmp-Int}
use Rattle.sqlite_trees.specs.Tree.{rowid, put_row, IsTable}
use Rattle.stock_keeper.specs.Changed.{last_number}
use Rattle.stock_keeper.specs.declared.tables.StoredRecord.{StoredRecord}
use Rattle.sqlite_tables.specs.Rows.{record_row, record_cells}

pub put_row-last : (new : Row) (rows : List Row) → AllByRecursion (λ r. value_cmp (rowid r) (rowid new) ≡ Less) rows → put_row new rows ≡ rows ++ new ∷ []
put_row-last new [] below = refl
put_row-last new (r ∷ rows) below = rw below.0 (ap (λ l. r ∷ l) (put_row-last new rows below.1))

-- the numbers of records rise, so the last is the highest, and one above it is above all
pub below_next : (n before : ℤ) (rows : List Row) (records : List StoredRecord) → IsTable rows → map record_cells rows ≡ map record_row records → n ≡ last_number before records +ℤ pos 1
    → AllByRecursion (λ r. value_cmp (rowid r) (Int n) ≡ Less) rows
below_next n before [] records table same next = tt
below_next n before (r ∷ rows) [] table same next = absurd cc
below_next n before (r ∷ []) (a ∷ b ∷ more) table same next = absurd cc
below_next n before (r ∷ s ∷ rows) (a ∷ []) table same next = absurd cc
below_next n before (r ∷ []) (a ∷ []) table same next =
    let id : column r 0 ≡ Int a.number = cc in
    let less : Less ≡ int_cmp a.number n = int_cmp_is a.number n Less (omega (arith, ints)) in
    (rw id (value_cmp-Int a.number n ∙ sym less), tt)
below_next n before (r ∷ s ∷ rows) (a ∷ b ∷ more) table same next =
    let later = below_next n a.number (s ∷ rows) (b ∷ more) table.1 (cc) next in
    (value_cmp_total.trans _ _ _ table.0.0 later.0, later)
