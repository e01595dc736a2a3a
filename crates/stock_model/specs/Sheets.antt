-- The sheets of a report, made from what was selected.
use Rattle.std.specs.Prelude.{◌≡◌, ℕ, Bool, true, IsTrue, Contains, ◌&&◌, pos, Option, Some, None, List, [], ◌∷◌, map, filter, fold, nat_eq, if◌then◌else◌, nat_lt}
use Rattle.std.specs.Cmp.Lexicographic.{pointwise}
use Rattle.stock_nums.specs.Places.{first_by}
use Rattle.stock_nums.specs.declared.entry.Key.{Key}
use Rattle.stock_nums.specs.declared.entry.Row.{Row}
use Rattle.stock_nums.specs.declared.head.Head.{Head}
use Rattle.stock_model.specs.declared.queries.Query.{Query}
use Rattle.stock_model.specs.declared.queries.Selected.{Selected}
use Rattle.stock_model.specs.declared.sheet_rows.BalanceRow.{BalanceRow}
use Rattle.stock_model.specs.Enough.{entry_key}
use Rattle.stock_model.specs.Masters.{code_of}
use Rattle.stock_model.specs.Sums.{stock_units, stock_value}

-- by the item's number, and then by the warehouse's
abbrev pub is_key_before : Key → Key → Bool
is_key_before a b = first_by a.item.0 b.item.0 (nat_lt a.store.0 b.store.0)

-- the first key comes before the second
abbrev pub IsKeyBefore : Key → Key → Type 0
IsKeyBefore a b = IsTrue (is_key_before a b)

-- the keys in order, with this one among them once
abbrev pub put_key : List Key → Key → List Key
put_key [] key = key ∷ []
put_key (k ∷ ks) key = if is_key_before key k then key ∷ k ∷ ks else (if is_key_before k key then k ∷ put_key ks key else k ∷ ks)

abbrev pub put_key_of : List Key → Row → List Key
put_key_of keys row = put_key keys (entry_key row.entry)

-- each item and warehouse with a movement, once, in order
abbrev pub keys_of : List Row → List Key
keys_of rows = fold put_key_of [] rows

-- one of the rows is of this item in this warehouse
abbrev pub HasKey : List Row → Key → Type 0
HasKey rows key = (row : Row) × Contains rows row × (entry_key row.entry ≡ key)

-- what one warehouse holds of one item: what entered less what left
abbrev pub balance_row : List Head → List Row → Key → BalanceRow
balance_row heads rows key =
    record {
      item = code_of heads key.item.0;
      store = code_of heads key.store.0;
      qty = record { 0 = stock_units rows key };
      value = record { 0 = pos (stock_value rows key) };
    }

-- the code is the one that is asked for, where one is
abbrev pub is_asked_code : Option (List ℕ) → List ℕ → Bool
is_asked_code None code = true
is_asked_code (Some asked) code = pointwise nat_eq code asked

-- the key is of the item and the warehouse that are asked for
abbrev pub is_asked_key : Query → List Head → Key → Bool
is_asked_key query heads key = is_asked_code query.item (code_of heads key.item.0) && is_asked_code query.store (code_of heads key.store.0)

-- a row for each item and warehouse with a movement that are asked for
unfoldable pub balance : Query → Selected → List BalanceRow
balance query selected =
    map (balance_row selected.heads selected.rows) (filter (is_asked_key query selected.heads) (keys_of selected.rows))
