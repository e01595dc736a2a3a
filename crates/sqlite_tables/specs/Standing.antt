-- Which tables a database stands for.
use Rattle.std.specs.Prelude.{◌≡◌, ℤ, pos, List, map, IsTrue, [], ◌∷◌}
use Rattle.sqlite_value.specs.declared.value.Value.TheVariants.{Int}
use Rattle.sqlite_value.specs.Order.{Row, column}
use Rattle.sqlite_trees.specs.declared.store.Store.{Ghosts}
use Rattle.sqlite_trees.specs.Tree.{Trees, IsTable}
use Rattle.sqlite_rules.specs.Lists.{Has}
use Rattle.sqlite.specs.Effect.{Database}
use Rattle.sqlite.specs.State.{HasCleanDisk}
use Rattle.sqlite.specs.Held.{Held, state}
use Rattle.stock_keeper.specs.declared.changes.SpotWorth.{SpotWorth}
use Rattle.stock_keeper.specs.declared.tables.Tables.{Tables}
use Rattle.stock_keeper.specs.Worths.{AreInOrder}
use Rattle.sqlite_tables.specs.Rows.{record_row, worth_row, record_cells, spot_cells, worth_cells, head_cells}
use Rattle.sqlite_tables.specs.Whole.{whole}

-- The rows are those of the worths, one for each, in any order. Which rowids they have is not said.
pub record HoldsWorths (rows : List Row) (worths : List SpotWorth) : Type 0 where
  pub rises : IsTable rows
  pub rows_are : (r : Row) → Has rows r → (w : SpotWorth) × (id : ℤ) × Has worths w × (worth_cells r ≡ worth_row w) × (column r 0 ≡ Int id)
  pub worths_are : (w : SpotWorth) → Has worths w → (r : Row) × Has rows r × (worth_cells r ≡ worth_row w)
  pub apart : (r s : Row) → Has rows r → Has rows s → spot_cells r ≡ spot_cells s → r ≡ s
  pub in_order : AreInOrder worths

-- the rows of the records are those of the tables' records in order, and the one row of the head has the version and what is covered
pub record StandsFor (db : Database) (t : Tables) : Type 0 where
  pub schema : db.schema ≡ whole
  pub records : map record_cells (db.trees 0) ≡ map record_row t.records
  pub rises : IsTable (db.trees 0)
  pub worths : HoldsWorths (db.trees 1) t.worths
  pub head : map head_cells (db.trees 3) ≡ (Int (pos 1) ∷ Int t.version ∷ Int t.covered ∷ []) ∷ []

-- the connection tells these tables: the disk is clean, and what was committed last, with nothing changed since, stands for them
pub record Tells {S : Type 0} (store : Ghosts S) (conn : Held S) (t : Tables) : Type 0 where
  pub clean : HasCleanDisk (state store conn)
  pub is_open : IsTrue (state store conn).is_open
  pub stands : StandsFor (state store conn).now t
  pub committed : (state store conn).committed ≡ (state store conn).now

-- it tells some, unless the disk lied or the connection is shut
abbrev pub IsTelling : {S : Type 0} → Ghosts S → Held S → Type 0
IsTelling store conn = HasCleanDisk (state store conn) → IsTrue (state store conn).is_open → (t : Tables) × Tells store conn t

-- a crash now may leave these tables
pub record MayLeave {S : Type 0} (store : Ghosts S) (conn : Held S) (t : Tables) : Type 0 where
  pub clean : HasCleanDisk (state store conn)
  pub trees : Trees
  pub left : (state store conn).may_leave trees
  pub stands : StandsFor (record { schema = whole; trees = trees }) t
