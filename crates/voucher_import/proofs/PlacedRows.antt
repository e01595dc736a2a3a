-- A row at a place of a voucher, and the lines before it.
use Rattle.std.proofs.Common.{◌≡◌, ◌<◌, ℕ, zero, suc, Bool, List, [], ◌∷◌, get_or, length, take, Some, None, refl, sym, ap, ◌∙◌, arith}
use Rattle.std.proofs.lemmas.List.{get_or-map, length-map}
use Rattle.csv.specs.Records.{fields_of}
use Rattle.csv.specs.Records.{Row as ByteRow}
use Rattle.voucher_import.specs.Kinds.{kind_of}
use Rattle.voucher_import.specs.Reading.{IsBegun, rows_in}
use Rattle.stock_nums.specs.MomentText.{SpellsMoment}
use Rattle.stock_nums.specs.declared.moment.Moment.{Moment}
use Rattle.voucher_import.specs.Rows.{Row, at_of, do_of}
use Rattle.voucher_import.specs.SheetVouchers.{IsDated}
use Rattle.voucher_import.specs.Sheets.{IsBadAt}
use Rattle.voucher_import.specs.declared.sheet.SheetField.{SheetField}
use Rattle.voucher_import.specs.RowFaults.{AreOfGroup, FirstWrong, IsWrong, start_fields}
use Rattle.voucher_import.specs.declared.kinds.SheetKind.{SheetKind}
use Rattle.voucher_import.proofs.Faults.{starts_right, tells_start}

-- the row at a place is the fields of the record there
pub row_at : (records : List ByteRow) (place : ℕ) (x : ByteRow) → place < length records → x ≡ get_or records place x → get_or (rows_in records) place [] ≡ fields_of x
row_at records place x within is = get_or-map fields_of records place x [] within ∙ ap fields_of (sym is)

-- the first row of a voucher is the first of the rows before a row, or the row itself
first_before : (rows : List Row) (place : ℕ) → place < length rows → get_or (take place rows) 0 (get_or rows place []) ≡ get_or rows 0 []
first_before [] place within = absurd (omega arith)
first_before (r ∷ rs) zero within = refl
first_before (r ∷ rs) (suc i) within = refl

pub head_at : (records : List ByteRow) (place : ℕ) (x first : ByteRow) → place < length records → x ≡ get_or records place x → first ≡ get_or records 0 first
    → get_or (take place (rows_in records)) 0 (fields_of x) ≡ fields_of first
head_at records place x first within is is_first =
    let size : length (rows_in records) ≡ length records = length-map records fields_of in
    let front = first_before (rows_in records) place (omega (arith, size)) in
    let here = row_at records place x within is in
    let start = row_at records 0 first (omega arith) is_first in
    (rw (here, start) at front)

-- a row of the voucher that was begun
pub record IsOfBegun (before : List Row) (row : Row) (of_kind : SheetKind) : Type 0 where
  pub start : FirstWrong (IsWrong before row) start_fields None
  pub word : kind_of (do_of row) ≡ Some of_kind

pub of_begun : (has_kind : SheetKind → Bool) (records : List ByteRow) (place : ℕ) (x first : ByteRow) → place < length records → x ≡ get_or records place x → first ≡ get_or records 0 first
    → (begun : IsBegun has_kind (rows_in records)) → length (fields_of x) ≡ 8 → AreOfGroup (fields_of first) (fields_of x)
    → IsOfBegun (take place (rows_in records)) (fields_of x) begun.of_kind
of_begun has_kind records place x first within is is_first begun whole group =
    let start = row_at records 0 first (omega arith) is_first in
    let word : kind_of (do_of (fields_of first)) ≡ Some begun.of_kind = rw start at begun.dated.word in
    record {
      start = starts_right (take place (rows_in records)) (fields_of first) (fields_of x) begun.of_kind begun.moment (head_at records place x first within is is_first) whole group word (rw start at begun.dated.at);
      word = rw (group.same_do) word;
    }

-- the kind and the moment of a voucher are those of its first row
pub dated_by : (records : List ByteRow) (first : ByteRow) (of_kind : SheetKind) (moment : Moment) → 0 < length records → first ≡ get_or records 0 first
    → kind_of (do_of (fields_of first)) ≡ Some of_kind → SpellsMoment (at_of (fields_of first)) moment → IsDated (rows_in records) of_kind moment
dated_by records first of_kind moment within is word at =
    let start = row_at records 0 first within is in
    record { word = rw start word; at = rw start at }

-- what is wrong with the first row of a voucher
pub bad_start : (records : List ByteRow) (first : ByteRow) (field : SheetField) → 0 < length records → first ≡ get_or records 0 first
    → FirstWrong (IsWrong [] (fields_of first)) start_fields (Some field) → IsBadAt (rows_in records) 0 field
bad_start records first field within is wrong =
    let size : length (rows_in records) ≡ length records = length-map records fields_of in
    record {
      within = omega (arith, size);
      right = λ place below. absurd (omega (arith, below));
      wrong = rw (row_at records 0 first within is) (tells_start [] (fields_of first) field wrong);
    }
