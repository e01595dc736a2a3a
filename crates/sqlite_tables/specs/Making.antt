-- How the tables are made in a database with nothing in it, one after another.
use Rattle.std.specs.Prelude.{◌≡◌, true, IsTrue, [], ◌∷◌}
use Rattle.sqlite_schema.specs.declared.schema.Schema.{Schema}
use Rattle.sqlite_trees.specs.declared.store.Store.{Ghosts}
use Rattle.sqlite_trees.specs.Tree.{Trees}
use Rattle.sqlite.specs.Effect.{Database}
use Rattle.sqlite.specs.State.{State, HasCleanDisk, Shows}
use Rattle.sqlite.specs.Held.{Held, state}
use Rattle.stock_keeper.specs.Changed.{new_tables}
use Rattle.sqlite_tables.specs.Standing.{StandsFor}
use Rattle.sqlite_tables.specs.Whole.{records_table, worths_table, worths_index, whole}

abbrev pub no_schema : Schema
no_schema = record { tables = []; indexes = []; views = [] }

abbrev pub records_alone : Schema
records_alone = record { tables = records_table ∷ []; indexes = []; views = [] }

abbrev pub no_head : Schema
no_head = record { tables = records_table ∷ worths_table ∷ []; indexes = worths_index ∷ []; views = [] }

-- a database with nothing in it
abbrev pub IsBlank : Database → Type 0
IsBlank db = db.schema ≡ no_schema

-- one with the table of the records, which has no row, and so on
abbrev pub HasRecords : Database → Type 0
HasRecords db = (db.schema ≡ records_alone) × (db.trees 0 ≡ [])

abbrev pub HasWorths : Database → Type 0
HasWorths db = (db.schema ≡ no_head) × (db.trees 0 ≡ []) × (db.trees 1 ≡ [])

abbrev pub HasHead : Database → Type 0
HasHead db = (db.schema ≡ whole) × (db.trees 0 ≡ []) × (db.trees 1 ≡ []) × (db.trees 3 ≡ [])

-- one that stands for tables in which nothing is kept yet
abbrev pub IsNew : Database → Type 0
IsNew db = StandsFor db new_tables

-- the transaction goes on, and leads from the one to the other
pub record Leads (From To : Database → Type 0) (old new : State) : Type 0 where
  pub shows : Shows old new new.now old.committed true
  pub leads : From old.now → To new.now

abbrev pub HasLed : {S : Type 0} → Ghosts S → (Database → Type 0) → (Database → Type 0) → Held S → Held S → Type 0
HasLed store From To old new =
    HasCleanDisk (state store new) → IsTrue old.in_transaction → Leads From To (state store old) (state store new)

-- A whole transaction made the tables, where there was nothing, and has committed them.
pub record Makes (old new : State) : Type 0 where
  pub was_open : IsTrue old.is_open
  pub is_open : IsTrue new.is_open
  pub stands : IsBlank old.now → IsNew new.now
  pub committed : new.committed ≡ new.now

abbrev pub HasMadeTables : {S : Type 0} → Ghosts S → Held S → Held S → Type 0
HasMadeTables store old new = HasCleanDisk (state store new) → Makes (state store old) (state store new)

-- a crash during the transaction may leave trees with all of the tables, in which nothing is kept yet
pub record LeavesNew (old : State) (trees : Trees) : Type 0 where
  pub was_open : IsTrue old.is_open
  pub stands : IsBlank old.now → IsNew (record { schema = whole; trees = trees })
