-- The items and warehouses of a journal. A record's number is its place in the journal, from 1.
use Rattle.std.specs.Prelude.{ℕ, zero, suc, Bool, ◌==◌, List, [], Option, Some, None, unwrap_or, slice_get}
use Rattle.std.specs.Option.{option_map}
use Rattle.std.specs.List.{filter_map, enumerate_from, find}
use Rattle.stock_nums.specs.declared.cause.Method.{Method}
use Rattle.stock_nums.specs.declared.head.Head.{Head}
use Rattle.stock_nums.specs.declared.numbers.AccountNo.{AccountNo}
use Rattle.stock_nums.specs.declared.numbers.ItemNo.{ItemNo}
use Rattle.stock_nums.specs.declared.numbers.StoreNo.{StoreNo}
use Rattle.stock_nums.specs.Heads.{ItemHead, StoreHead, item_in, store_in}
use Rattle.stock_model.specs.declared.vouchers.What.{What}
use Rattle.stock_model.specs.declared.vouchers.What.TheVariants.{Item, Store}
use Rattle.stock_model.specs.declared.records.Record.{Record}

-- the item that the record with this number makes, if it makes one
abbrev pub item_made : ℕ → What → Option ItemHead
item_made n (Item code method) = Some (record { number = n; code = code; method = method })
item_made n _ = None

-- the warehouse that the record with this number makes, if it makes one
abbrev pub store_made : ℕ → What → Option StoreHead
store_made n (Store code account) = Some (record { number = n; code = code; account = account.0 })
store_made n _ = None

-- the head of what the record with this number makes, if it makes an item or a warehouse
abbrev pub head_made : ℕ → What → Option Head
head_made n (Item code method) = Some (record { number = record { 0 = n }; code = code; account = None })
head_made n (Store code account) = Some (record { number = record { 0 = n }; code = code; account = Some account })
head_made n _ = None

abbrev pub item_numbered : ℕ × Record → Option ItemHead
item_numbered p = item_made p.0 p.1.what

abbrev pub store_numbered : ℕ × Record → Option StoreHead
store_numbered p = store_made p.0 p.1.what

abbrev pub head_numbered : ℕ × Record → Option Head
head_numbered p = head_made p.0 p.1.what

-- the items of a journal, in the order of their numbers
abbrev pub items : List Record → List ItemHead
items journal = filter_map item_numbered (enumerate_from 1 journal)

-- the warehouses of a journal, in the order of their numbers
abbrev pub stores : List Record → List StoreHead
stores journal = filter_map store_numbered (enumerate_from 1 journal)

-- the items and warehouses of a journal, in the order of their numbers
abbrev pub heads : List Record → List Head
heads journal = filter_map head_numbered (enumerate_from 1 journal)

-- the item with this code
abbrev pub item_with : List Record → List ℕ → Option (ItemNo × Method)
item_with journal code = item_in (items journal) code

-- the warehouse with this code. Items and warehouses may have the same codes
abbrev pub store_with : List Record → List ℕ → Option (StoreNo × AccountNo)
store_with journal code = store_in (stores journal) code

-- the record with this number, from 1
abbrev pub record_at : List Record → ℕ → Option Record
record_at journal zero = None
record_at journal (suc n) = slice_get journal n

abbrev pub has_number : ℕ → Head → Bool
has_number n head = head.number.0 == n

abbrev pub head_code : Head → List ℕ
head_code head = head.code

-- the code of the item or warehouse with this number, or the empty code
abbrev pub code_of : List Head → ℕ → List ℕ
code_of heads n = unwrap_or (option_map head_code (find (has_number n) heads)) []

-- the code of the item or warehouse that the record makes, or the empty code
abbrev pub code_made : What → List ℕ
code_made (Item code method) = code
code_made (Store code account) = code
code_made _ = []

abbrev pub record_code : Record → List ℕ
record_code item = code_made item.what
