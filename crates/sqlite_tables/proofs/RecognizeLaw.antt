-- A table whose parts are all known is that table.
use Rattle.std.proofs.Common.{◌≡◌, ℕ, false, List, [], Option}
use Rattle.sqlite_sql.specs.Term.{Term}
use Rattle.sqlite_value.specs.declared.keys.Order.{Order}
use Rattle.sqlite_schema.specs.declared.schema.Column.{Column}
use Rattle.sqlite_schema.specs.declared.schema.Table.{Table}
use Rattle.sqlite_tables.specs.Recognizing.{IsBare, IsKeyed}

pub table_is : (t : Table) (name : List ℕ) (tree : ℕ) (key : Option ℕ) (columns : List Column) (primary : List ℕ) (uniques : List (List ℕ)) (orders : List Order) (checks : List Term)
    → IsBare t name tree key → t.columns ≡ columns → IsKeyed t primary uniques orders → t.checks ≡ checks → t ≡ record {
      name = name;
      tree = tree;
      columns = columns;
      key = key;
      primary = primary;
      uniques = uniques;
      orders = orders;
      checks = checks;
      references = [];
      computed = [];
      stamps = record { places = []; terms = []; formats = [] };
      is_counted = false;
    }
table_is t name tree key columns primary uniques orders checks bare columns_are keyed checks_are = λ i. record {
  name = bare.name_is i;
  tree = bare.tree_is i;
  columns = columns_are i;
  key = bare.key_is i;
  primary = keyed.primary_is i;
  uniques = keyed.uniques_are i;
  orders = keyed.orders_are i;
  checks = checks_are i;
  references = bare.no_reference i;
  computed = bare.none_computed i;
  stamps = record { places = bare.no_place i; terms = bare.no_term i; formats = bare.no_format i };
  is_counted = bare.uncounted i;
}
