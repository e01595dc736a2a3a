-- What a sheet says, or the first that is wrong with it.
use Rattle.std.specs.Prelude.{ℕ, ◌≡◌, ◌+◌, ◌<◌, List, [], ◌∷◌, ◌++◌, length, take, get_or, sum_by, All, Some, None, Result, Ok, Err, ⊤}
use Rattle.std.specs.List.{AllZip}
use Rattle.voucher_import.specs.Rows.{Row, head_row}
use Rattle.voucher_import.specs.RowFaults.{RowFault}
use Rattle.voucher_import.specs.Runs.{runs_of}
use Rattle.voucher_import.specs.SheetVouchers.{IsVoucher}
use Rattle.voucher_import.specs.declared.sheet.SheetField.{SheetField}
use Rattle.voucher_import.specs.declared.sheet.SheetFault.{SheetFault}
use Rattle.voucher_import.specs.declared.sheet.SheetFault.TheVariants.{BadHead, BadRow, NoMemory}
use Rattle.voucher_import.specs.declared.sheet.SheetVoucher.{SheetVoucher}

-- nothing is wrong with the row at this place of a voucher, given those before it
abbrev pub IsRightAt : List Row → ℕ → Type 0
IsRightAt rows place = RowFault (take place rows) (get_or rows place []) None

-- nothing is wrong with the first rows of a voucher, so many
abbrev pub AreRightBelow : List Row → ℕ → Type 0
AreRightBelow rows count = (place : ℕ) → place < count → IsRightAt rows place

-- nothing is wrong with the rows of a voucher
abbrev pub AreRight : List Row → Type 0
AreRight rows = AreRightBelow rows (length rows)

-- the row at this place of a voucher is the first that is wrong, and this is what is wrong with it first
pub record IsBadAt (rows : List Row) (place : ℕ) (field : SheetField) : Type 0 where
  pub within : place < length rows
  pub right : AreRightBelow rows place
  pub wrong : RowFault (take place rows) (get_or rows place []) (Some field)

-- the row with this number, counted from 1 with the head, is the first of a sheet that is wrong: the vouchers before its own are right
pub record IsBadRow (rows : List Row) (number : ℕ) (field : SheetField) : Type 0 where
  pub before : List (List Row)
  pub voucher : List Row
  pub after : List (List Row)
  pub place : ℕ
  pub are : runs_of rows ≡ before ++ voucher ∷ after
  pub right : All AreRight before
  pub bad : IsBadAt voucher place field
  pub counted : number ≡ sum_by length before + place + 2

-- what the rows under the head say, voucher by voucher
pub record AreVouchers (rows : List Row) (vouchers : List SheetVoucher) : Type 0 where
  pub right : All AreRight (runs_of rows)
  pub each : AllZip IsVoucher (runs_of rows) vouchers

-- the rows of a text are the head and these
abbrev pub HasRows : List Row → List Row → Type 0
HasRows whole rows = whole ≡ head_row ∷ rows

-- what comes of the rows of a text: exactly the vouchers, or exactly the first fault, unless memory is wanting
abbrev pub IsSheet : List Row → Result (List SheetVoucher) SheetFault → Type 0
IsSheet whole (Ok vouchers) = (rows : List Row) × HasRows whole rows × AreVouchers rows vouchers
IsSheet whole (Err BadHead) = (rows : List Row) → ¬ HasRows whole rows
IsSheet whole (Err (BadRow number field)) = (rows : List Row) × HasRows whole rows × IsBadRow rows number field
IsSheet whole (Err NoMemory) = ⊤
