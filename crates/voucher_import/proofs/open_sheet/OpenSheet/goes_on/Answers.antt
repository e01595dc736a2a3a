-- The row is of the open voucher where it has the voucher of the first row of that.
use Rattle.std.proofs.Common.{◌≡◌, List, [], ◌∷◌, Option, Some, None, refl, sym, ap, ◌∙◌}
use Rattle.std.specs.List.{slice_get}
use Rattle.std.proofs.lemmas.Bool.{false≢true}
use Rattle.std.proofs.lemmas.Slice.Eq.{bytes_eq-Decides}
use Rattle.csv.specs.Records.{fields_of}
use Rattle.csv.specs.Records.{Row as ByteRow}
use Rattle.voucher_import.specs.Reading.{rows_in}
use Rattle.voucher_import.specs.Rows.{Row, voucher_of}
use Rattle.voucher_import.proofs.open_sheet.OpenSheet.goes_on.Goals as goal

-- the fields of records whose first is known
split : (records items : List ByteRow) (first : ByteRow) → items ≡ records → Some first ≡ slice_get items 0 → (run : List Row) × (rows_in records ≡ fields_of first ∷ run)
split records [] first same found = absurd (cc (found))
split records (x ∷ xs) first same found =
    let head : first ≡ x = cc (found) in
    (rows_in xs, rw (← same, head) refl)

none : (records items : List ByteRow) → items ≡ records → ◌≡◌ {A = Option ByteRow} None (slice_get items 0) → rows_in records ≡ []
none records [] same found = rw (← same) refl
none records (x ∷ xs) same found = absurd (cc (found))

pub returns-in-Some : goal.returns-in-Some
returns-in-Some c =
    let front = split c.args.self.now.run.items c.deref.result.now c.in-Some.first.now c.deref.ensures.value c.in-Some.ensures.value in
    let row = fields_of c.args.row.now in
    let decides = bytes_eq-Decides (voucher_of (fields_of c.in-Some.first.now)) (voucher_of row) in
    let same = rw (c.field.ensures, c.field-in-Some.ensures) at c.eq.ensures in (
      (λ yes. (fields_of c.in-Some.first.now, front.0, front.1, decides.0 (sym same ∙ yes))),
      (λ one.
          let first : one.0 ≡ fields_of c.in-Some.first.now = cc (one.2, front.1) in
          same ∙ decides.1 (ap voucher_of (sym first) ∙ one.3)),
    )

pub returns-in-None : goal.returns-in-None
returns-in-None c =
    let empty = none c.args.self.now.run.items c.deref.result.now c.deref.ensures.value c.in-None.ensures.value in
    ((λ no. absurd (false≢true no)), (λ one. absurd (cc (one.2, empty))))
