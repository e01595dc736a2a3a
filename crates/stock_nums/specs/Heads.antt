-- Items and warehouses as lists of heads, and finding one by its code.
use Rattle.std.specs.Prelude.{ℕ, Bool, List, Option, nat_eq}
use Rattle.std.specs.Option.{option_map}
use Rattle.std.specs.List.{find}
use Rattle.std.specs.Cmp.Lexicographic.{pointwise}
use Rattle.stock_nums.specs.declared.cause.Method.{Method}
use Rattle.stock_nums.specs.declared.numbers.AccountNo.{AccountNo}
use Rattle.stock_nums.specs.declared.numbers.ItemNo.{ItemNo}
use Rattle.stock_nums.specs.declared.numbers.StoreNo.{StoreNo}

-- an item: the number of the record that made it, its code and its cost formula (IAS 2.25)
pub record ItemHead : Type 0 where
  pub number : ℕ
  pub code : List ℕ
  pub method : Method

-- a warehouse: the number of the record that made it, its code and its ledger account
pub record StoreHead : Type 0 where
  pub number : ℕ
  pub code : List ℕ
  pub account : ℕ

abbrev pub has_item_code : List ℕ → ItemHead → Bool
has_item_code code head = pointwise nat_eq head.code code

abbrev pub has_store_code : List ℕ → StoreHead → Bool
has_store_code code head = pointwise nat_eq head.code code

-- an item as it is found: its number and its cost formula
abbrev pub item_found : ItemHead → ItemNo × Method
item_found head = (record { 0 = head.number }, head.method)

-- a warehouse as it is found: its number and its account
abbrev pub store_found : StoreHead → StoreNo × AccountNo
store_found head = (record { 0 = head.number }, record { 0 = head.account })

-- the item with this code: the first, where several have it
abbrev pub item_in : List ItemHead → List ℕ → Option (ItemNo × Method)
item_in items code = option_map item_found (find (has_item_code code) items)

-- the warehouse with this code: the first, where several have it
abbrev pub store_in : List StoreHead → List ℕ → Option (StoreNo × AccountNo)
store_in stores code = option_map store_found (find (has_store_code code) stores)
