-- A sheet with an open voucher, row by row.
use Rattle.std.proofs.Common.{◌≡◌, ◌≢◌, ◌<◌, ◌+◌, ◌++◌, ℕ, List, [], ◌∷◌, Result, Ok, Err, length, refl, sym, ap, ◌∙◌, append_assoc, arith}
use Rattle.std.specs.Prelude.{All, sum_by}
use Rattle.std.proofs.lemmas.List.{append-nil, length-map, map-append}
use Rattle.std.proofs.lemmas.List.Elements.{All-head, All-nil, All-push, All-weaker}
use Rattle.std.proofs.lemmas.List.Sums.{sum_by-append}
use Rattle.std.proofs.lemmas.Slice.Zip.{all_zipped_more}
use Rattle.csv.specs.Records.{fields_of}
use Rattle.csv.specs.Records.{Row as ByteRow}
use Rattle.voucher_import.specs.Reading.{IsOfNext, IsOpen, ReadsRows, Steps, rows_in}
use Rattle.voucher_import.specs.Rows.{Row, voucher_of}
use Rattle.voucher_import.specs.Runs.{runs_of}
use Rattle.voucher_import.specs.SheetVouchers.{IsVoucher, IsWithinLimits}
use Rattle.voucher_import.specs.Sheets.{AreRight, AreVouchers, HasRows, IsSheet}
use Rattle.voucher_import.specs.declared.open_sheet.OpenSheet.{OpenSheet}
use Rattle.voucher_import.specs.declared.sheet.SheetFault.{SheetFault}
use Rattle.voucher_import.specs.declared.sheet.SheetFault.TheVariants.{BadHead, BadRow, NoMemory}
use Rattle.voucher_import.specs.declared.sheet.SheetVoucher.{SheetVoucher}
use Rattle.voucher_import.proofs.RunRows.{first_run_of}

-- the open voucher is the first run of its rows and those to come
open_run : (rows rest : List Row) (old : OpenSheet) → IsOpen rows rest old → IsOfNext (rows_in old.run.items) rest → 0 < length old.run.items
    → runs_of (rows_in old.run.items ++ rest) ≡ rows_in old.run.items ∷ runs_of rest
open_run rows rest old is_open next some =
    let size : length (rows_in old.run.items) ≡ length old.run.items = length-map old.run.items fields_of in
    first_run_of is_open.name (rows_in old.run.items) rest (omega (arith, size)) is_open.one next

-- the open voucher is read and closed
pub closes : (rows rest : List Row) (old new : OpenSheet) (voucher : SheetVoucher) → IsOpen rows rest old → IsOfNext (rows_in old.run.items) rest → 0 < length old.run.items
    → AreRight (rows_in old.run.items) → IsVoucher (rows_in old.run.items) voucher → IsWithinLimits voucher
    → new.vouchers ≡ old.vouchers ++ voucher ∷ [] → new.run.items ≡ [] → new.before ≡ old.before + length old.run.items → IsOpen rows rest new
closes rows rest old new voucher is_open next some right is_one within added cleared counted =
    let run = rows_in old.run.items in
    let size : length run ≡ length old.run.items = length-map old.run.items fields_of in
    let first = open_run rows rest old is_open next some in
    let total : sum_by length (is_open.closed ++ run ∷ []) ≡ sum_by length is_open.closed + (0 + length run) = sum_by-append length is_open.closed (run ∷ []) in
    let before : old.before ≡ sum_by length is_open.closed + 1 = is_open.before in
    record {
      closed = is_open.closed ++ run ∷ [];
      are = rw cleared (is_open.are ∙ ap (λ (runs : List (List Row)). is_open.closed ++ runs) first ∙ sym (append_assoc is_open.closed (run ∷ []) (runs_of rest)));
      right = All-push AreRight is_open.closed run is_open.right right;
      each = rw added (all_zipped_more IsVoucher is_open.closed old.vouchers run voucher is_open.each is_one);
      limits = rw added (All-push IsWithinLimits old.vouchers voucher is_open.limits within);
      before = counted ∙ omega (arith, total, before, size);
      name = [];
      one = rw cleared (All-nil (λ row. voucher_of row ≡ []));
    }

-- the open voucher has a wrong row
pub closes_badly : {A B : Type 0} (holds : A → Type 0) (after : B → Type 0) (rows rest : List Row) (old : OpenSheet) (fault : SheetFault) → IsOpen rows rest old → IsOfNext (rows_in old.run.items) rest → 0 < length old.run.items
    → ReadsRows (rows_in old.run.items) old.before holds (Err fault) → Steps rows after (Err fault)
closes_badly holds after rows rest old BadHead is_open next some read = absurd read
closes_badly holds after rows rest old NoMemory is_open next some read = tt
closes_badly holds after rows rest old (BadRow number field) is_open next some read =
    let before : old.before ≡ sum_by length is_open.closed + 1 = is_open.before in
    record {
      before = is_open.closed;
      voucher = rows_in old.run.items;
      after = runs_of rest;
      place = read.0;
      are = is_open.are ∙ ap (λ (runs : List (List Row)). is_open.closed ++ runs) (open_run rows rest old is_open next some);
      right = is_open.right;
      bad = read.1;
      counted = read.2 ∙ omega (arith, before);
    }

-- a fault is the same whatever would have followed
pub same_fault : {A B : Type 0} (holds : A → Type 0) (after : B → Type 0) (rows : List Row) (fault : SheetFault) → Steps rows holds (Err fault) → Steps rows after (Err fault)
same_fault holds after rows BadHead step = absurd step
same_fault holds after rows NoMemory step = tt
same_fault holds after rows (BadRow number field) step = step

-- one more row of the open voucher
pub pushes : (rows rest : List Row) (row : ByteRow) (old new : OpenSheet) (name : List ℕ) → IsOpen rows (fields_of row ∷ rest) old
    → All (λ r. voucher_of r ≡ name) (rows_in old.run.items) → voucher_of (fields_of row) ≡ name
    → new.vouchers ≡ old.vouchers → new.run.items ≡ old.run.items ++ row ∷ [] → new.before ≡ old.before → IsOpen rows rest new
pushes rows rest row old new name is_open one named same_vouchers pushed same_before =
    let run = rows_in old.run.items in
    let more : rows_in (old.run.items ++ row ∷ []) ≡ run ++ fields_of row ∷ [] = map-append fields_of old.run.items (row ∷ []) in
    let split : (run ++ fields_of row ∷ []) ++ rest ≡ run ++ (fields_of row ∷ rest) = append_assoc run (fields_of row ∷ []) rest in
    record {
      closed = is_open.closed;
      are = rw (pushed, more, split) is_open.are;
      right = is_open.right;
      each = rw same_vouchers is_open.each;
      limits = rw same_vouchers is_open.limits;
      before = same_before ∙ is_open.before;
      name = name;
      one = rw (pushed, more) (All-push (λ r. voucher_of r ≡ name) run (fields_of row) one named);
    }

-- a row of the voucher of the first row of the open one is of that
pub named : (name : List ℕ) (run : List Row) (row first : Row) (others : List Row) → All (λ r. voucher_of r ≡ name) run → run ≡ first ∷ others → voucher_of first ≡ voucher_of row → voucher_of row ≡ name
named name run row first others one split same =
    let front : All (λ r. voucher_of r ≡ name) (first ∷ others) = rw split at one in
    sym same ∙ All-head (λ r. voucher_of r ≡ name) first others front

-- a row of another voucher than the first of the open one is not of that
pub is_next : (name : List ℕ) (run : List Row) (row : Row) (rest : List Row) → All (λ r. voucher_of r ≡ name) run
    → ¬ ((first : Row) × (others : List Row) × (run ≡ first ∷ others) × (voucher_of first ≡ voucher_of row)) → IsOfNext run (row ∷ rest)
is_next name [] row rest one other = All-nil (λ r. voucher_of r ≢ voucher_of row)
is_next name (first ∷ others) row rest one other =
    let front = All-head (λ r. voucher_of r ≡ name) first others one in
    All-weaker (λ r. voucher_of r ≡ name) (λ r. voucher_of r ≢ voucher_of row) (λ r is same. other (first, others, refl, front ∙ sym is ∙ same)) (first ∷ others) one

-- a sheet with no open voucher, to which no row comes, is read
pub finishes : (rows : List Row) (sheet : OpenSheet) → IsOpen rows [] sheet → sheet.run.items ≡ [] → AreVouchers rows sheet.vouchers
unfolding runs_of
finishes rows sheet is_open empty =
    let here : runs_of rows ≡ is_open.closed ++ [] = rw empty at is_open.are in
    let all : runs_of rows ≡ is_open.closed = here ∙ append-nil is_open.closed in
    record { right = rw all is_open.right; each = rw all is_open.each }

-- what comes of the rows under the head is what comes of the sheet
pub of_rows : (whole rows : List Row) → HasRows whole rows → (end : Result (List SheetVoucher) SheetFault) → Steps rows (AreVouchers rows) end → IsSheet whole end
of_rows whole rows has (Ok vouchers) step = (rows, has, step)
of_rows whole rows has (Err BadHead) step = absurd step
of_rows whole rows has (Err (BadRow number field)) step = (rows, has, step)
of_rows whole rows has (Err NoMemory) step = tt
