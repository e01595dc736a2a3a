-- How the items and warehouses are kept: values with their codes, and a map from the codes to the values.
use Rattle.std.specs.Prelude.{ℕ, ◌≡◌, List, [], ◌∷◌, Option, None, String}
use Rattle.std.specs.BTreeMap.{BTreeMap, get_by_text}
use Rattle.std.specs.Map.{lookup}
use Rattle.std.specs.Str.{bytes_eq}
use Rattle.stock_nums.specs.declared.cause.Method.{Method}
use Rattle.stock_nums.specs.declared.numbers.AccountNo.{AccountNo}
use Rattle.stock_nums.specs.declared.numbers.ItemNo.{ItemNo}
use Rattle.stock_nums.specs.declared.numbers.StoreNo.{StoreNo}
use Rattle.stock_nums.specs.Heads.{ItemHead, StoreHead}

module _ {V : Type 0} where
  -- the first value with this code
  abbrev pub value_of : List (List ℕ × V) → List ℕ → Option V
  value_of entries code = lookup (λ c. bytes_eq c code) entries

  -- no code is there twice
  abbrev pub AreApart : List (List ℕ × V) → Type 0
  AreApart [] = Unit {0}
  AreApart (entry ∷ entries) = (value_of entries entry.0 ≡ None) × AreApart entries

  -- the map has, for each code, the first value with it
  pub record IsRegister {Y : Type 0} (entries : List (List ℕ × V)) (by_code : BTreeMap (String Y) V) : Type 0 where
    pub finds : (code : List ℕ) → get_by_text by_code code ≡ value_of entries code
    pub apart : AreApart entries

-- the item that is kept so
abbrev pub item_head : List ℕ × (ItemNo × Method) → ItemHead
item_head entry = record { number = entry.1.0.0; code = entry.0; method = entry.1.1 }

-- the warehouse that is kept so
abbrev pub store_head : List ℕ × (StoreNo × AccountNo) → StoreHead
store_head entry = record { number = entry.1.0.0; code = entry.0; account = entry.1.1.0 }
