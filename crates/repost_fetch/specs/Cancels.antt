-- Which records take another one back.
use Rattle.std.specs.Prelude.{Bool, true, false, List}
use Rattle.std.specs.List.{list_any}
use Rattle.stock_model.specs.declared.vouchers.What.{What}
use Rattle.stock_model.specs.declared.vouchers.What.TheVariants.{Cancel}
use Rattle.stock_model.specs.declared.records.Record.{Record}

-- what says this takes a record back
unfoldable pub says_cancel : What → Bool
says_cancel (Cancel target) = true
says_cancel _ = false

abbrev pub is_cancel : Record → Bool
is_cancel item = says_cancel item.what

-- one of the records takes another one back
abbrev pub has_cancel : List Record → Bool
has_cancel records = list_any is_cancel records
