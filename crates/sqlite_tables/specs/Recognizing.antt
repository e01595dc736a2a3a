-- What is the same in the three tables of a ledger, and what tells them apart.
use Rattle.std.specs.Prelude.{◌≡◌, ℕ, false, List, [], Option}
use Rattle.sqlite_value.specs.declared.keys.Order.{Order}
use Rattle.sqlite_schema.specs.declared.schema.Table.{Table}

-- the table has this name, tree and key, no reference to another, no default that is computed, and no counter
pub record IsBare (table : Table) (name : List ℕ) (tree : ℕ) (key : Option ℕ) : Type 0 where
  pub name_is : table.name ≡ name
  pub tree_is : table.tree ≡ tree
  pub key_is : table.key ≡ key
  pub no_reference : table.references ≡ []
  pub none_computed : table.computed ≡ []
  pub no_place : table.stamps.places ≡ []
  pub no_term : table.stamps.terms ≡ []
  pub no_format : table.stamps.formats ≡ []
  pub uncounted : table.is_counted ≡ false

-- the table has these places of its key, and these of what else is unique, in these orders
pub record IsKeyed (table : Table) (primary : List ℕ) (uniques : List (List ℕ)) (orders : List Order) : Type 0 where
  pub primary_is : table.primary ≡ primary
  pub uniques_are : table.uniques ≡ uniques
  pub orders_are : table.orders ≡ orders
