-- The lines that tell of a sheet.
use Rattle.std.specs.Prelude.{ℕ, ℤ, List, [], ◌∷◌, ◌++◌, codes, decimal}
use Rattle.std.specs.Fmt.{signed_decimal}
use Rattle.std.specs.List.{flat_map}
use Rattle.voucher_import.specs.declared.sheet.SheetFault.{SheetFault}
use Rattle.voucher_import.specs.declared.sheet.SheetFault.TheVariants.{BadHead, BadRow, NoMemory}
use Rattle.voucher_import.specs.declared.sheet.SheetField.{SheetField}
use Rattle.voucher_import.specs.declared.sheet.SheetField.TheVariants as field

abbrev pub field_name : SheetField → List ℕ
field_name field.Length = codes "length"
field_name field.Group = codes "group"
field_name field.Do = codes "do"
field_name field.At = codes "at"
field_name field.Item = codes "item"
field_name field.Store = codes "store"
field_name field.To = codes "to"
field_name field.Qty = codes "qty"
field_name field.Amount = codes "amount"
field_name field.Repeat = codes "repeat"
field_name field.Many = codes "many"

-- what is wrong with a sheet; that memory was wanting has no line
abbrev pub fault_line : SheetFault → List ℕ
fault_line BadHead = codes "{\"fault\":\"bad-head\",\"status\":\"bad\"}\n"
fault_line (BadRow row name) =
    ((((codes "{\"fault\":\"bad-row\",\"field\":\"" ++ field_name name) ++ codes "\",\"row\":") ++ decimal row) ++ codes ",\"status\":\"bad\"}\n")
fault_line NoMemory = []

-- a number after another
abbrev pub further_number : ℤ → List ℕ
further_number n = codes "," ++ signed_decimal n

-- the numbers, parted by commas
abbrev pub numbers_text : List ℤ → List ℕ
numbers_text [] = []
numbers_text (n ∷ rest) = signed_decimal n ++ flat_map further_number rest

-- the differences of a count, in the order of its lines
abbrev pub diffs_line : List ℤ → List ℕ
diffs_line diffs = (codes "{\"diffs\":[" ++ numbers_text diffs) ++ codes "],\"status\":\"counted\"}\n"

-- the first line of a count that differs by more than a voucher can move
abbrev pub wide_line : ℕ → List ℕ
wide_line line = (codes "{\"fault\":\"wide\",\"line\":" ++ decimal line) ++ codes ",\"status\":\"refused\"}\n"
