-- The schema of a ledger's database, written out: what the three texts that make its tables define.
use Rattle.std.specs.Prelude.{ℕ, pos, Bool, true, false, List, [], ◌∷◌, Some, None, codes}
use Rattle.sqlite_value.specs.declared.keys.Collation.TheVariants.{Binary}
use Rattle.sqlite_value.specs.declared.value.Value.TheVariants.{Null, Int}
use Rattle.sqlite_value.specs.Keys.{plain}
use Rattle.sqlite_sql.specs.Term.{lit, col, op2}
use Rattle.sqlite_sql.specs.declared.ops.BinaryOp.TheVariants.{Compare}
use Rattle.sqlite_sql.specs.declared.ops.CompareOp.TheVariants.{Eq}
use Rattle.sqlite_schema.specs.declared.schema.Kind.{Kind}
use Rattle.sqlite_schema.specs.declared.schema.Kind.TheVariants.{Integer, Blob}
use Rattle.sqlite_schema.specs.declared.schema.Column.{Column}
use Rattle.sqlite_schema.specs.declared.schema.Table.{Table}
use Rattle.sqlite_schema.specs.declared.schema.Index.{Index}
use Rattle.sqlite_schema.specs.declared.schema.Schema.{Schema}

abbrev pub column_of : List ℕ → Kind → Bool → Column
column_of name kind not_null =
    record { name = name; kind = kind; is_strict = true; not_null = not_null; default = Null; collation = Binary }

-- each record's number is its rowid
abbrev pub records_table : Table
records_table = record {
  name = codes "records";
  tree = 0;
  columns = column_of (codes "no") Integer false ∷ column_of (codes "body") Blob true ∷ [];
  key = Some 0;
  primary = 0 ∷ [];
  uniques = [];
  orders = [];
  checks = [];
  references = [];
  computed = [];
  stamps = record { places = []; terms = []; formats = [] };
  is_counted = false;
}

-- no two worths have one spot
abbrev pub worths_table : Table
worths_table = record {
  name = codes "worths";
  tree = 1;
  columns = column_of (codes "voucher") Integer true ∷ column_of (codes "line") Integer true ∷ column_of (codes "side") Integer true
      ∷ column_of (codes "value") Integer true ∷ column_of (codes "share") Integer true ∷ [];
  key = None;
  primary = 1 ∷ 2 ∷ 3 ∷ [];
  uniques = (1 ∷ 2 ∷ 3 ∷ []) ∷ [];
  orders = plain ∷ [];
  checks = [];
  references = [];
  computed = [];
  stamps = record { places = []; terms = []; formats = [] };
  is_counted = false;
}

-- its one row has the id 1
abbrev pub head_table : Table
head_table = record {
  name = codes "head";
  tree = 3;
  columns = column_of (codes "id") Integer false ∷ column_of (codes "version") Integer true ∷ column_of (codes "covered") Integer true ∷ [];
  key = Some 0;
  primary = 0 ∷ [];
  uniques = [];
  orders = [];
  checks = op2 (Compare Eq Binary) (col 1 0) (lit (Int (pos 1))) ∷ [];
  references = [];
  computed = [];
  stamps = record { places = []; terms = []; formats = [] };
  is_counted = false;
}

abbrev pub worths_index : Index
worths_index = record {
  name = codes "sqlite_autoindex_worths_1";
  tree = 2;
  table = 1;
  columns = 1 ∷ 2 ∷ 3 ∷ [];
  order = plain;
  is_unique = true;
}

abbrev pub whole : Schema
whole = record {
  tables = records_table ∷ worths_table ∷ head_table ∷ [];
  indexes = worths_index ∷ [];
  views = [];
}
