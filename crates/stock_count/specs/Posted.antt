-- What is held once the vouchers of a plan are posted.
use Rattle.std.specs.Prelude.{◌≡◌, pos, List, map, Option}
use Rattle.std.specs.Option.{option_to_list}
use Rattle.stock_nums.specs.declared.moment.Moment.{Moment}
use Rattle.stock_model.specs.declared.records.Record.{Record}
use Rattle.stock_model.specs.declared.vouchers.What.{What}
use Rattle.voucher_import.specs.declared.sheet.CountLine.{CountLine}
use Rattle.stock_count.specs.Held.{held}

abbrev pub said : Record → What
said item = item.what

-- these are the voucher as a record of some desk, or none where there is no voucher
abbrev pub ArePosted : Option What → List Record → Type 0
ArePosted voucher records = map said records ≡ option_to_list voucher

-- the warehouse held at the moment what was counted
abbrev pub IsHeldAsCounted : List Record → Moment → CountLine → Type 0
IsHeldAsCounted journal at line = held journal line.item line.store at ≡ pos line.qty.0
