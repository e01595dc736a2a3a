-- Issues first in, first out, as examples: what they cost, and the layers that are left.
use Rattle.std.specs.Prelude.{ℕ, pos, true, ◌≡◌, List, [], ◌∷◌, None, refl}
use Rattle.std.proofs.Common.{lit<, lit≤}
use Rattle.stock_nums.specs.Quantities.{IsLineQuantity, is_line_amount}
use Rattle.stock_nums.specs.declared.cause.Method.TheVariants.{Fifo}
use Rattle.stock_nums.specs.declared.moment.Moment.{Moment}
use Rattle.stock_model.specs.declared.queries.Query.{Query}
use Rattle.stock_model.specs.declared.queries.Format.TheVariants.{Json}
use Rattle.stock_model.specs.declared.queries.Sheet.TheVariants as sheet
use Rattle.stock_model.specs.declared.records.Record.{Record}
use Rattle.stock_model.specs.declared.sheet_rows.LayerRow.{LayerRow}
use Rattle.stock_model.specs.declared.vouchers.Purpose.TheVariants.{Sold}
use Rattle.stock_model.specs.declared.vouchers.ReceiptLine.{ReceiptLine}
use Rattle.stock_model.specs.declared.vouchers.What.TheVariants.{Item, Receipt, Issue}
use Rattle.stock_model.specs.Worked.{nine, store_w1}
use Rattle.stock_model.specs.WorkedIssues.{first, third, fourth}

-- the item A, first in, first out
abbrev pub item_a : Record
item_a = record { desk = record { 0 = 0 }; what = Item (65 ∷ []) Fifo; desks = lit≤ tt; limits = refl }

-- units of A into W1 for an amount
abbrev pub bought_line : (qty : ℕ) → (amount : ℕ) → IsLineQuantity qty → is_line_amount (pos amount) ≡ true → ReceiptLine
bought_line qty amount some price =
    record { item = 65 ∷ []; store = 87 ∷ 49 ∷ []; qty = record { 0 = qty }; amount = record { 0 = pos amount }; quantity = some; price = price }

-- the receipt of such a line
abbrev pub bought_at : Moment → ReceiptLine → Record
bought_at at line = record { desk = record { 0 = 0 }; what = Receipt at (line ∷ []); desks = lit≤ tt; limits = refl }

-- the sale of so many units of A out of W1
abbrev pub sold_a : Moment → (qty : ℕ) → IsLineQuantity qty → Record
sold_a at qty some =
    record {
      desk = record { 0 = 0 };
      what = Issue at Sold (record { item = 65 ∷ []; store = 87 ∷ 49 ∷ []; qty = record { 0 = qty }; quantity = some } ∷ []);
      desks = lit≤ tt;
      limits = refl;
    }

-- three units that cost 100 together are sold one by one
abbrev pub three : List Record
three =
    item_a ∷ store_w1 ∷ bought_at nine (bought_line 3 100 (lit< tt, lit≤ tt) refl) ∷ sold_a third 1 (lit< tt, lit≤ tt)
    ∷ sold_a fourth 1 (lit< tt, lit≤ tt) ∷ []

-- ten units for 1000 and ten for 1300, of which fifteen are sold
abbrev pub two_layers : List Record
two_layers =
    item_a ∷ store_w1 ∷ bought_at nine (bought_line 10 1000 (lit< tt, lit≤ tt) refl)
    ∷ bought_at third (bought_line 10 1300 (lit< tt, lit≤ tt) refl) ∷ sold_a fourth 15 (lit< tt, lit≤ tt) ∷ []

-- four units for 100 that came before all, typed last
abbrev pub late : Record
late = bought_at first (bought_line 4 100 (lit< tt, lit≤ tt) refl)

-- the sheets of all records
abbrev pub layers_sheet : Query
layers_sheet = record { sheet = sheet.Layers; need = record { 0 = 0 }; until = None; item = None; store = None; format = Json }

-- units of A in W1 that are left of the first line of this record
abbrev pub left_of : (voucher qty value : ℕ) → LayerRow
left_of voucher qty value =
    record {
      item = 65 ∷ [];
      store = 87 ∷ 49 ∷ [];
      voucher = record { 0 = voucher };
      line = 1;
      qty = record { 0 = qty };
      value = record { 0 = pos value };
    }
