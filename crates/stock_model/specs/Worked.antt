-- A first run, as an example: one item, one warehouse, one receipt.
use Rattle.std.specs.Prelude.{ℕ, pos, List, [], ◌∷◌, None, refl}
use Rattle.std.proofs.Common.{lit<, lit≤}
use Rattle.stock_nums.specs.Calendar.{IsCalendarDate}
use Rattle.stock_nums.specs.declared.cause.Method.TheVariants.{Average}
use Rattle.stock_nums.specs.declared.moment.Moment.{Moment}
use Rattle.stock_model.specs.declared.deeds.Deed.{Deed}
use Rattle.stock_model.specs.declared.deeds.Deed.TheVariants.{Kept}
use Rattle.stock_model.specs.declared.queries.Query.{Query}
use Rattle.stock_model.specs.declared.queries.Format.TheVariants.{Json}
use Rattle.stock_model.specs.declared.queries.Sheet.TheVariants as sheet
use Rattle.stock_model.specs.declared.records.Record.{Record}
use Rattle.stock_model.specs.declared.sheet_rows.BalanceRow.{BalanceRow}
use Rattle.stock_model.specs.declared.vouchers.ReceiptLine.{ReceiptLine}
use Rattle.stock_model.specs.declared.vouchers.What.TheVariants.{Item, Store, Receipt}

-- the calendar has 2 January 2026
pub is_day : IsCalendarDate 20260102
is_day = (
  lit< tt,
  (
    (record { le = tt }, record { le = tt }),
    (record { le = tt }, record { le = tt }),
    (record { le = tt }, record { le = tt }),
  ),
)

-- nine in the morning of 2 January 2026
abbrev pub nine : Moment
nine = record { date = 20260102; second = 32400; exists = is_day; within_day = lit< tt }

-- the item B, by moving average
abbrev pub item_b : Record
item_b = record { desk = record { 0 = 0 }; what = Item (66 ∷ []) Average; desks = lit≤ tt; limits = refl }

-- the warehouse W1 on account 100
abbrev pub store_w1 : Record
store_w1 =
    record { desk = record { 0 = 0 }; what = Store (87 ∷ 49 ∷ []) (record { 0 = 100 }); desks = lit≤ tt; limits = refl }

-- 10 units of an item into W1 for 1000
abbrev pub ten_of : List ℕ → ReceiptLine
ten_of item =
    record {
      item = item;
      store = 87 ∷ 49 ∷ [];
      qty = record { 0 = 10 };
      amount = record { 0 = pos 1000 };
      quantity = (lit< tt, lit≤ tt);
      price = refl;
    }

-- the receipt at nine of 10 units of an item into W1 for 1000
abbrev pub receipt_of : List ℕ → Record
receipt_of item =
    record { desk = record { 0 = 0 }; what = Receipt nine (ten_of item ∷ []); desks = lit≤ tt; limits = refl }

-- the journal of the first run
abbrev pub first_journal : List Record
first_journal = item_b ∷ store_w1 ∷ receipt_of (66 ∷ []) ∷ []

-- the history after the three records, before they are published
abbrev pub first_history : List Deed
first_history = Kept item_b ∷ Kept store_w1 ∷ Kept (receipt_of (66 ∷ [])) ∷ []

-- the balance sheet
abbrev pub balance_sheet : Query
balance_sheet = record { sheet = sheet.Balance; need = record { 0 = 0 }; until = None; item = None; store = None; format = Json }

-- W1 holds 10 units of B worth 1000
abbrev pub ten_b : BalanceRow
ten_b = record { item = 66 ∷ []; store = 87 ∷ 49 ∷ []; qty = record { 0 = 10 }; value = record { 0 = pos 1000 } }
