-- Maps of rows, and of what is held by them, by their keys.
use Rattle.std.specs.Prelude.{◌≡◌, Bool, List, [], ◌∷◌, filter, Option, Some, None}
use Rattle.std.specs.BTreeMap.{BTreeMap, get}
use Rattle.std.specs.declared.cmp.Ordering.{Ordering}
use Rattle.stock_nums.specs.contracts.entry.KeyOrd.TheImpl as key_order
use Rattle.stock_nums.specs.declared.entry.Key.{Key}
use Rattle.stock_nums.specs.declared.entry.Row.{Row}
use Rattle.stock_nums.specs.declared.head.Head.{Head}
use Rattle.stock_model.specs.declared.queries.Query.{Query}
use Rattle.stock_model.specs.Enough.{entry_key}
use Rattle.stock_model.specs.Sheets.{is_asked_key}
use Rattle.stock_model.specs.Sums.{is_of}
use Rattle.valuation_report.specs.declared.holdings.Holding.{Holding}
use Rattle.valuation_report.specs.Holdings.{holding_of, AreHeld}

-- the order of keys: by item, and then by warehouse
abbrev pub key_cmp : Key → Key → Ordering
key_cmp = (key_order.ghosts).cmp

-- rows, where there are any
abbrev pub some_rows : List Row → Option (List Row)
some_rows [] = None
some_rows (row ∷ rows) = Some (row ∷ rows)

-- the map has the rows of each key, in their order
pub record IsByKey (by_key : BTreeMap Key (List Row)) (rows : List Row) : Type 0 where
  pub at : (key : Key) → get key_cmp by_key key ≡ some_rows (filter (is_of key) rows)

-- what is held by rows, where there are any
abbrev pub some_holding : List Row → Option Holding
some_holding [] = None
some_holding (row ∷ rows) = Some (holding_of (row ∷ rows))

-- the map has what is held of each key
pub record IsHeldByKey (by_key : BTreeMap Key Holding) (rows : List Row) : Type 0 where
  pub at : (key : Key) → get key_cmp by_key key ≡ some_holding (filter (is_of key) rows)

-- the movements of each item in each warehouse are all that is held of it
pub record AreHeldByKey (rows : List Row) : Type 0 where
  pub at : (key : Key) → AreHeld (filter (is_of key) rows)

-- the row is of an item and a warehouse that are asked for
abbrev pub is_asked_row : Query → List Head → Row → Bool
is_asked_row query heads row = is_asked_key query heads (entry_key row.entry)
