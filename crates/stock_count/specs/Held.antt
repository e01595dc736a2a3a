-- What a warehouse held at a moment.
use Rattle.std.specs.Prelude.{ℕ, Bool, not, ℤ, pos, ◌-ℤ◌, List, filter, Option}
use Rattle.std.specs.Option.{option_map, option_map_or, option_and_then}
use Rattle.stock_nums.specs.declared.cause.Method.{Method}
use Rattle.stock_nums.specs.declared.entry.Entry.{Entry}
use Rattle.stock_nums.specs.declared.entry.Key.{Key}
use Rattle.stock_nums.specs.declared.moment.Moment.{Moment}
use Rattle.stock_nums.specs.declared.numbers.AccountNo.{AccountNo}
use Rattle.stock_nums.specs.declared.numbers.ItemNo.{ItemNo}
use Rattle.stock_nums.specs.declared.numbers.StoreNo.{StoreNo}
use Rattle.stock_nums.specs.Places.{is_later}
use Rattle.stock_model.specs.declared.records.Record.{Record}
use Rattle.stock_model.specs.Enough.{entered, departed}
use Rattle.stock_model.specs.Masters.{item_with, store_with}
use Rattle.stock_model.specs.PostingOrder.{posting_line}

-- the movement is not after the moment
abbrev pub is_until : Moment → Entry → Bool
is_until at e = not (is_later e.place.moment at)

-- what entered less what left. In a journal whose records had no fault it is never negative
abbrev pub held_of : List Entry → Key → ℤ
held_of es key = pos (entered es key) -ℤ pos (departed es key)

abbrev pub key_found : ItemNo × Method → StoreNo × AccountNo → Key
key_found item store = record { item = item.0; store = store.0 }

-- the warehouse with this code, beside an item that is found
abbrev pub key_beside : List Record → List ℕ → ItemNo × Method → Option Key
key_beside journal store item = option_map (key_found item) (store_with journal store)

-- the item and the warehouse with these codes, where the journal has both
abbrev pub key_with : List Record → List ℕ → List ℕ → Option Key
key_with journal item store = option_and_then (key_beside journal store) (item_with journal item)

-- what was held by all movements in force that are not after the moment
abbrev pub held_until : List Record → Moment → Key → ℤ
held_until journal at key = held_of (filter (is_until at) (posting_line journal)) key

-- how many units of the item the warehouse held at the moment, 0 where one of the codes is unknown
abbrev pub held : List Record → List ℕ → List ℕ → Moment → ℤ
held journal item store at = option_map_or (held_until journal at) (key_with journal item store) (pos 0)
