-- The kinds of vouchers of a sheet.
use Rattle.std.specs.Prelude.{ℕ, Bool, true, false, List, Option, Some, None, bytes_eq, codes, if◌then◌else◌}
use Rattle.stock_model.specs.declared.vouchers.Purpose.{Purpose}
use Rattle.stock_model.specs.declared.vouchers.Purpose.TheVariants as purpose
use Rattle.voucher_import.specs.declared.kinds.SheetKind.{SheetKind}
use Rattle.voucher_import.specs.declared.kinds.SheetKind.TheVariants.{Receipt, Sold, Used, Transfer, Count}

-- the kind that a word of `do` means
abbrev pub kind_of : List ℕ → Option SheetKind
kind_of word =
    if bytes_eq word (codes "receipt") then Some Receipt
    else if bytes_eq word (codes "sold") then Some Sold
    else if bytes_eq word (codes "used") then Some Used
    else if bytes_eq word (codes "transfer") then Some Transfer
    else if bytes_eq word (codes "count") then Some Count
    else None

-- the kind of an issue for this purpose
abbrev pub issue_kind : Purpose → SheetKind
issue_kind purpose.Sold = Sold
issue_kind purpose.Used = Used

-- which kinds have the lines of a receipt
abbrev pub is_receipt : SheetKind → Bool
is_receipt Receipt = true
is_receipt Sold = false
is_receipt Used = false
is_receipt Transfer = false
is_receipt Count = false

-- which kinds have the lines of an issue
abbrev pub is_issue : SheetKind → Bool
is_issue Receipt = false
is_issue Sold = true
is_issue Used = true
is_issue Transfer = false
is_issue Count = false

-- which kinds have the lines of a transfer
abbrev pub is_transfer : SheetKind → Bool
is_transfer Receipt = false
is_transfer Sold = false
is_transfer Used = false
is_transfer Transfer = true
is_transfer Count = false

-- which kinds have the lines of a count
abbrev pub is_count : SheetKind → Bool
is_count Receipt = false
is_count Sold = false
is_count Used = false
is_count Transfer = false
is_count Count = true
