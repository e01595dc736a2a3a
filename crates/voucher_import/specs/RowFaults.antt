-- What is wrong with a row of a sheet.
use Rattle.std.specs.Prelude.{ℕ, ◌≡◌, ◌≢◌, ◌≤◌, ◌⊎◌, Bool, true, false, ◌&&◌, nat_le, List, [], ◌∷◌, length, get_or, Option, Some, None, MatchOption, IsUtf8, bytes_eq}
use Rattle.std.specs.Char.{is_ascii_digit}
use Rattle.std.specs.List.{list_all, list_any}
use Rattle.std.specs.Str.Parse.{digits_value}
use Rattle.stock_nums.specs.MomentText.{SpellsMoment}
use Rattle.stock_nums.specs.declared.limits.TheConstants.{MAX_AMOUNT, MAX_LINES, MAX_QUANTITY}
use Rattle.stock_nums.specs.declared.moment.Moment.{Moment}
use Rattle.voucher_import.specs.Kinds.{kind_of}
use Rattle.voucher_import.specs.Rows.{Row, do_of, at_of, item_of, store_of, to_of, qty_of, amount_of}
use Rattle.voucher_import.specs.declared.fields.TheConstants.{MAX_DIGITS}
use Rattle.voucher_import.specs.declared.kinds.SheetKind.{SheetKind}
use Rattle.voucher_import.specs.declared.kinds.SheetKind.TheVariants as kind
use Rattle.voucher_import.specs.declared.sheet.SheetField.{SheetField}
use Rattle.voucher_import.specs.declared.sheet.SheetField.TheVariants.{Length, Group, Do, At, Item, Store, To, Qty, Amount, Repeat, Many}

-- whether the text is one to thirteen ASCII digits
abbrev pub are_digits : List ℕ → Bool
are_digits text = nat_le 1 (length text) && nat_le (length text) MAX_DIGITS && list_all is_ascii_digit text

-- whether it is, and they tell a number from the least to the most
abbrev pub is_number : ℕ → ℕ → List ℕ → Bool
is_number least most text = are_digits text && (nat_le least (digits_value 10 text) && nat_le (digits_value 10 text) most)

-- the least quantity of a line: a count may find nothing
abbrev pub least_qty : SheetKind → ℕ
least_qty kind.Receipt = 1
least_qty kind.Sold = 1
least_qty kind.Used = 1
least_qty kind.Transfer = 1
least_qty kind.Count = 0

-- the second warehouse of a line: a code for a transfer, and else empty
abbrev pub IsTo : SheetKind → List ℕ → Type 0
IsTo kind.Receipt text = text ≡ []
IsTo kind.Sold text = text ≡ []
IsTo kind.Used text = text ≡ []
IsTo kind.Transfer text = IsUtf8 text
IsTo kind.Count text = text ≡ []

-- the price of a line: a number for a receipt, and else empty
abbrev pub IsPrice : SheetKind → List ℕ → Type 0
IsPrice kind.Receipt text = is_number 0 MAX_AMOUNT text ≡ true
IsPrice kind.Sold text = text ≡ []
IsPrice kind.Used text = text ≡ []
IsPrice kind.Transfer text = text ≡ []
IsPrice kind.Count text = text ≡ []

-- the row is of a kind, of which this holds
abbrev pub OfKind : Row → (SheetKind → Type 0) → Type 0
OfKind row holds = MatchOption (kind_of (do_of row)) ⊥ holds

-- both rows have the same `do` and the same `at`
pub record AreOfGroup (first row : Row) : Type 0 where
  pub same_do : do_of row ≡ do_of first
  pub same_at : at_of row ≡ at_of first

-- whether two rows are of one item in one warehouse
abbrev pub has_same_place : Row → Row → Bool
has_same_place row other = bytes_eq (item_of row) (item_of other) && bytes_eq (store_of row) (store_of other)

-- This is wrong with a row, where the voucher has these lines before it. A code is any text in UTF-8.
abbrev pub IsWrong : List Row → Row → SheetField → Type 0
IsWrong before row Length = length row ≢ 8
IsWrong before row Group = ¬ AreOfGroup (get_or before 0 row) row
IsWrong before row Do = kind_of (do_of row) ≡ None
IsWrong before row At = (moment : Moment) → ¬ SpellsMoment (at_of row) moment
IsWrong before row Item = ¬ IsUtf8 (item_of row)
IsWrong before row Store = ¬ IsUtf8 (store_of row)
IsWrong before row To = OfKind row (λ of_kind. ¬ IsTo of_kind (to_of row))
IsWrong before row Qty = OfKind row (λ of_kind. is_number (least_qty of_kind) MAX_QUANTITY (qty_of row) ≡ false)
IsWrong before row Amount = OfKind row (λ of_kind. ¬ IsPrice of_kind (amount_of row))
IsWrong before row Repeat = (kind_of (do_of row) ≡ Some kind.Count) × (list_any (has_same_place row) before ≡ true)
IsWrong before row Many = MAX_LINES ≤ length before

-- the first of these fields that is wrong is this one, or none of them is
abbrev pub FirstWrong : (SheetField → Type 0) → List SheetField → Option SheetField → Type 0
FirstWrong wrong [] found = found ≡ None
FirstWrong wrong (field ∷ fields) found = (wrong field × (found ≡ Some field)) ⊎ ((¬ wrong field) × FirstWrong wrong fields found)

-- what may be wrong with the first row of a voucher, as such
abbrev pub start_fields : List SheetField
start_fields = Length ∷ Group ∷ Do ∷ At ∷ []

-- what may be wrong with a line by itself
abbrev pub line_fields : List SheetField
line_fields = Item ∷ Store ∷ To ∷ Qty ∷ Amount ∷ []

-- what may be wrong with a row, in the order in which it is told
unfoldable pub all_fields : List SheetField
all_fields = Length ∷ Group ∷ Do ∷ At ∷ Item ∷ Store ∷ To ∷ Qty ∷ Amount ∷ Repeat ∷ Many ∷ []

-- what is wrong first with a row, where the voucher has these lines before it
abbrev pub RowFault : List Row → Row → Option SheetField → Type 0
RowFault before row = FirstWrong (IsWrong before row) all_fields
