-- What the functions that read a sheet say of each other.
use Rattle.std.specs.Prelude.{ℕ, ◌≡◌, ◌≢◌, ◌+◌, Bool, true, List, [], ◌++◌, ◌∷◌, length, map, sum_by, All, Some, None, Result, Ok, Err, ⊤}
use Rattle.std.specs.List.{AllZip}
use Rattle.csv.specs.Records.{fields_of}
use Rattle.csv.specs.Records.{Row as ByteRow}
use Rattle.stock_nums.specs.declared.moment.Moment.{Moment}
use Rattle.voucher_import.specs.Rows.{Row, voucher_of}
use Rattle.voucher_import.specs.RowFaults.{FirstWrong, IsWrong}
use Rattle.voucher_import.specs.Runs.{runs_of}
use Rattle.voucher_import.specs.SheetVouchers.{IsDated, IsVoucher, IsWithinLimits}
use Rattle.voucher_import.specs.Sheets.{AreRight, IsBadAt, IsBadRow}
use Rattle.voucher_import.specs.declared.fields.RowFault.{RowFault}
use Rattle.voucher_import.specs.declared.fields.RowFault.TheVariants as row_fault
use Rattle.voucher_import.specs.declared.kinds.SheetKind.{SheetKind}
use Rattle.voucher_import.specs.declared.open_sheet.OpenSheet.{OpenSheet}
use Rattle.voucher_import.specs.declared.sheet.SheetField.{SheetField}
use Rattle.voucher_import.specs.declared.sheet.SheetFault.{SheetFault}
use Rattle.voucher_import.specs.declared.sheet.SheetFault.TheVariants as fault

-- what comes of a field: a value of which this holds, where the field is right, and else that it is wrong
abbrev pub Reads : {A : Type 0} → SheetField → Type 0 → (A → Type 0) → Result A RowFault → Type 0
Reads field right holds (Ok value) = right × holds value
Reads field right holds (Err (row_fault.Wrong found)) = (found ≡ field) × ¬ right
Reads field right holds (Err row_fault.NoMemory) = ⊤

-- what comes of these fields of a row, where the voucher has these lines before it: a value, or what is wrong first
abbrev pub Checks : {A : Type 0} → List Row → Row → List SheetField → (A → Type 0) → Result A RowFault → Type 0
Checks before row fields holds (Ok value) = FirstWrong (IsWrong before row) fields None × holds value
Checks before row fields holds (Err (row_fault.Wrong field)) = FirstWrong (IsWrong before row) fields (Some field)
Checks before row fields holds (Err row_fault.NoMemory) = ⊤

-- the fields of records
abbrev pub rows_in : List ByteRow → List Row
rows_in records = map fields_of records

-- the first of the rows says that they are of one of these kinds, and at a moment
pub record IsBegun (has_kind : SheetKind → Bool) (rows : List Row) : Type 0 where
  pub of_kind : SheetKind
  pub moment : Moment
  pub is_one : has_kind of_kind ≡ true
  pub dated : IsDated rows of_kind moment

-- what comes of the rows of a voucher, before which there are so many: a value, or the first that is wrong
abbrev pub ReadsRows : {A : Type 0} → List Row → ℕ → (A → Type 0) → Result A SheetFault → Type 0
ReadsRows rows before holds (Ok value) = AreRight rows × holds value
ReadsRows rows before holds (Err (fault.BadRow number field)) = (place : ℕ) × IsBadAt rows place field × (number ≡ before + place + 1)
ReadsRows rows before holds (Err fault.BadHead) = ⊥
ReadsRows rows before holds (Err fault.NoMemory) = ⊤

-- Of these rows those of the closed vouchers are read. Others are of the open one, and the rest is to come.
pub record IsOpen (rows rest : List Row) (sheet : OpenSheet) : Type 0 where
  pub closed : List (List Row)
  pub are : runs_of rows ≡ closed ++ runs_of (rows_in sheet.run.items ++ rest)
  pub right : All AreRight closed
  pub each : AllZip IsVoucher closed sheet.vouchers
  pub limits : All IsWithinLimits sheet.vouchers
  pub before : sheet.before ≡ sum_by length closed + 1
  pub name : List ℕ
  pub one : All (λ row. voucher_of row ≡ name) (rows_in sheet.run.items)

-- what comes of a step over these rows
abbrev pub Steps : {A : Type 0} → List Row → (A → Type 0) → Result A SheetFault → Type 0
Steps rows holds (Ok value) = holds value
Steps rows holds (Err (fault.BadRow number field)) = IsBadRow rows number field
Steps rows holds (Err fault.BadHead) = ⊥
Steps rows holds (Err fault.NoMemory) = ⊤

-- no row to come is of the voucher of these, since the next one is not, or there is none
abbrev pub IsOfNext : List Row → List Row → Type 0
IsOfNext run [] = ⊤
IsOfNext run (next ∷ rest) = All (λ row. voucher_of row ≢ voucher_of next) run
