-- Movements in posting order, and what they change in key order.
use Rattle.std.specs.Prelude.{◌≡◌, List}
use Rattle.stock_nums.specs.declared.entry.Entry.{Entry}
use Rattle.stock_nums.specs.declared.entry.Key.{Key}
use Rattle.stock_model.specs.InOrder.{IsInPostingOrder}
use Rattle.key_order.specs.Changes.{changes_of, of_key}
use Rattle.key_order.specs.declared.change.Change.{Change}

-- of each item in each warehouse, the changes are those of the movements in their order
abbrev pub AreOf : List Entry → List Change → Type 0
AreOf es cs = (key : Key) → of_key key cs ≡ of_key key (changes_of es)

-- movements stand in posting order, and the changes are theirs
pub record ArePaired (es : List Entry) (cs : List Change) : Type 0 where
  pub in_order : IsInPostingOrder es
  pub same : AreOf es cs
