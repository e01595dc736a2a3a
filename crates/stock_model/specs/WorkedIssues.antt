-- Issues by moving average, as an example: three units that cost 100 together, and are sold one a day.
use Rattle.std.specs.Prelude.{ℕ, pos, List, [], ◌∷◌, ◌++◌, None, refl}
use Rattle.std.proofs.Common.{lit<, lit≤}
use Rattle.stock_nums.specs.Calendar.{IsCalendarDate}
use Rattle.stock_nums.specs.declared.moment.Moment.{Moment}
use Rattle.stock_nums.specs.declared.place.Side.TheVariants.{Leaves}
use Rattle.stock_model.specs.declared.deeds.Deed.{Deed}
use Rattle.stock_model.specs.declared.deeds.Deed.TheVariants.{Kept, Published}
use Rattle.stock_model.specs.declared.faults.PostFault.{PostFault}
use Rattle.stock_model.specs.declared.faults.PostFault.TheVariants.{Short}
use Rattle.stock_model.specs.declared.queries.Query.{Query}
use Rattle.stock_model.specs.declared.queries.Format.TheVariants.{Json}
use Rattle.stock_model.specs.declared.queries.Sheet.TheVariants as sheet
use Rattle.stock_model.specs.declared.records.Record.{Record}
use Rattle.stock_model.specs.declared.sheet_rows.BalanceRow.{BalanceRow}
use Rattle.stock_model.specs.declared.vouchers.IssueLine.{IssueLine}
use Rattle.stock_model.specs.declared.vouchers.Purpose.TheVariants.{Sold}
use Rattle.stock_model.specs.declared.vouchers.ReceiptLine.{ReceiptLine}
use Rattle.stock_model.specs.declared.vouchers.What.TheVariants.{Receipt, Issue}
use Rattle.stock_model.specs.Worked.{nine, item_b, store_w1}

-- the calendar has these days of January 2026
pub is_first : IsCalendarDate 20260101
is_first = (
  lit< tt,
  (
    (record { le = tt }, record { le = tt }),
    (record { le = tt }, record { le = tt }),
    (record { le = tt }, record { le = tt }),
  ),
)

pub is_third : IsCalendarDate 20260103
is_third = (
  lit< tt,
  (
    (record { le = tt }, record { le = tt }),
    (record { le = tt }, record { le = tt }),
    (record { le = tt }, record { le = tt }),
  ),
)

pub is_fourth : IsCalendarDate 20260104
is_fourth = (
  lit< tt,
  (
    (record { le = tt }, record { le = tt }),
    (record { le = tt }, record { le = tt }),
    (record { le = tt }, record { le = tt }),
  ),
)

pub is_fifth : IsCalendarDate 20260105
is_fifth = (
  lit< tt,
  (
    (record { le = tt }, record { le = tt }),
    (record { le = tt }, record { le = tt }),
    (record { le = tt }, record { le = tt }),
  ),
)

-- nine in the morning of a day
abbrev pub nine_of : (date : ℕ) → IsCalendarDate date → Moment
nine_of date exists = record { date = date; second = 32400; exists = exists; within_day = lit< tt }

abbrev pub first : Moment
first = nine_of 20260101 is_first

abbrev pub third : Moment
third = nine_of 20260103 is_third

abbrev pub fourth : Moment
fourth = nine_of 20260104 is_fourth

abbrev pub fifth : Moment
fifth = nine_of 20260105 is_fifth

-- 3 units of B into W1 for 100
abbrev pub three_for_100 : ReceiptLine
three_for_100 =
    record {
      item = 66 ∷ [];
      store = 87 ∷ 49 ∷ [];
      qty = record { 0 = 3 };
      amount = record { 0 = pos 100 };
      quantity = (lit< tt, lit≤ tt);
      price = refl;
    }

abbrev pub bought : Record
bought = record { desk = record { 0 = 0 }; what = Receipt nine (three_for_100 ∷ []); desks = lit≤ tt; limits = refl }

-- one unit of B out of W1
abbrev pub one_b : IssueLine
one_b = record { item = 66 ∷ []; store = 87 ∷ 49 ∷ []; qty = record { 0 = 1 }; quantity = (lit< tt, lit≤ tt) }

-- the sale of one unit at the moment
abbrev pub sold_at : Moment → Record
sold_at at = record { desk = record { 0 = 0 }; what = Issue at Sold (one_b ∷ []); desks = lit≤ tt; limits = refl }

-- the item, the warehouse, what was bought, and the three sales
abbrev pub sales : List Record
sales = item_b ∷ store_w1 ∷ bought ∷ sold_at third ∷ sold_at fourth ∷ sold_at fifth ∷ []

-- one unit of B lacks in W1 at the line of this record
abbrev pub lacks_one : Moment → ℕ → PostFault
lacks_one at n =
    Short (record { moment = at; voucher = record { 0 = n }; line = 1; side = Leaves }) (record { 0 = 1 }) (record { 0 = 2 }) (record { 0 = 1 })

-- W1 holds so many units of B, worth so much
abbrev pub holds : ℕ → ℕ → List BalanceRow
holds qty value = record { item = 66 ∷ []; store = 87 ∷ 49 ∷ []; qty = record { 0 = qty }; value = record { 0 = pos value } } ∷ []

-- all of these records were kept, and then published
abbrev pub kept_all : List Record → List Deed
kept_all [] = []
kept_all (item ∷ records) = Kept item ∷ kept_all records

abbrev pub published : List Record → ℕ → List Deed
published records n = kept_all records ++ Published (record { 0 = n }) ∷ []

-- the balance sheet that has to cover a record
abbrev pub balance_of : ℕ → Query
balance_of need = record { sheet = sheet.Balance; need = record { 0 = need }; until = None; item = None; store = None; format = Json }
