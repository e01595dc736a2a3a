-- The lines that correct what was held to what was counted.
use Rattle.std.specs.Prelude.{ℕ, ℤ, pos, int_lt, unsigned_abs, List, if◌then◌else◌, Option, Some, None}
use Rattle.std.specs.List.{filter_map}
use Rattle.stock_nums.specs.declared.moment.Moment.{Moment}
use Rattle.stock_model.specs.declared.records.Record.{Record}
use Rattle.stock_model.specs.declared.vouchers.IssueLine.{IssueLine}
use Rattle.stock_model.specs.declared.vouchers.ReceiptLine.{ReceiptLine}
use Rattle.voucher_import.specs.declared.sheet.CountLine.{CountLine}
use Rattle.voucher_import.specs.declared.sheet.CountSheet.{CountSheet}
use Rattle.stock_count.specs.Differences.{difference}

-- what a line of a voucher says: an item, a warehouse, units, and their purchase price
pub record Correction : Type 0 where
  pub item : List ℕ
  pub store : List ℕ
  pub qty : ℕ
  pub amount : ℤ

-- what a line of an issue says, which has no purchase price
abbrev pub issue_said : IssueLine → Correction
issue_said line = record { item = line.item; store = line.store; qty = line.qty.0; amount = pos 0 }

abbrev pub receipt_said : ReceiptLine → Correction
receipt_said line = record { item = line.item; store = line.store; qty = line.qty.0; amount = line.amount.0 }

-- so many units as the difference is large, for nothing
abbrev pub correction : CountLine → ℤ → Correction
correction line diff = record { item = line.item; store = line.store; qty = unsigned_abs diff; amount = pos 0 }

-- what is missing by the difference, if anything is
abbrev pub shortage : CountLine → ℤ → Option Correction
shortage line diff = if int_lt diff (pos 0) then Some (correction line diff) else None

-- what there is too much by the difference, if there is
abbrev pub surplus : CountLine → ℤ → Option Correction
surplus line diff = if int_lt (pos 0) diff then Some (correction line diff) else None

abbrev pub shortage_of : List Record → Moment → CountLine → Option Correction
shortage_of journal at line = shortage line (difference journal at line)

abbrev pub surplus_of : List Record → Moment → CountLine → Option Correction
surplus_of journal at line = surplus line (difference journal at line)

-- all that is missing, in the order of the lines
abbrev pub shortages : List Record → CountSheet → List Correction
shortages journal sheet = filter_map (shortage_of journal sheet.at) sheet.lines

-- all that there is too much, in the order of the lines
abbrev pub surpluses : List Record → CountSheet → List Correction
surpluses journal sheet = filter_map (surplus_of journal sheet.at) sheet.lines
