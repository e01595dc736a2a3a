-- What a database is before its tables are told, and what preparing it makes of it.
use Rattle.std.specs.Prelude.{◌≡◌, ◌⊎◌, ⊤, ℕ, ℤ, pos, List, Option, Some, None, IsTrue, [], ◌∷◌}
use Rattle.sqlite_value.specs.declared.value.Value.TheVariants.{Int}
use Rattle.sqlite_value.specs.Order.{Row, column}
use Rattle.sqlite_trees.specs.declared.store.Store.{Ghosts}
use Rattle.sqlite_trees.specs.Tree.{Trees}
use Rattle.sqlite.specs.Effect.{Database}
use Rattle.sqlite.specs.State.{HasCleanDisk, Shown, IsUnchanged, Survives}
use Rattle.sqlite.specs.Held.{Held, state}
use Rattle.stock_keeper.specs.Changed.{new_tables, upgraded}
use Rattle.stock_keeper.specs.Keeping.{Within}
use Rattle.stock_keeper.specs.declared.tables.Tables.{Tables}
use Rattle.sqlite_tables.specs.Making.{IsBlank, HasMadeTables, LeavesNew}
use Rattle.sqlite_tables.specs.Sorted.{IsSorted, KnowsOrder, IsRenewed}
use Rattle.sqlite_tables.specs.Standing.{StandsFor, IsTelling}
use Rattle.sqlite_tables.specs.Stored.{Base, TellsTables}
use Rattle.sqlite_tables.specs.Turning.{HasMade, HasUndone, IsTried}
use Rattle.sqlite_tables.specs.Whole.{whole}

-- the rows are the answer to the query, where the disk is clean
abbrev pub HasAnswered : {S : Type 0} → Ghosts S → List ℕ → Held S → Held S → List Row → Type 0
HasAnswered store text old new rows = HasCleanDisk (state store new) → Shown text [] (state store old) (state store new) rows

-- nothing changed, where the disk is clean and the schema that of a ledger's database
abbrev pub HasLooked : {S : Type 0} → Ghosts S → Held S → Held S → Type 0
HasLooked store old new = HasCleanDisk (state store new) → (state store old).now.schema ≡ whole → IsUnchanged (state store old) (state store new)

-- the row is of the head with the id 1, this version and so many records that are covered
abbrev pub IsWholeHead : Row → ℤ → ℤ → Type 0
IsWholeHead row version covered = (column row 0 ≡ Int (pos 1)) × (column row 1 ≡ Int version) × (column row 2 ≡ Int covered)

-- there is one row, and it is that
abbrev pub IsOneHead : List Row → ℤ → ℤ → Type 0
IsOneHead rows version covered = (row : Row) × (rows ≡ row ∷ []) × IsWholeHead row version covered

-- the database stands for these tables, where the disk is clean, the schema that of a ledger's database, and its rows stand by rowid
abbrev pub HasFound : {S : Type 0} → Ghosts S → Held S → Held S → Tables → Type 0
HasFound store old new t =
    HasCleanDisk (state store new) → (state store old).now.schema ≡ whole → IsSorted (state store old).now → StandsFor (state store old).now t

-- these are the tables that were found, in the version that is written now
abbrev pub HasFoundBefore : {S : Type 0} → Ghosts S → Held S → Held S → Tables → Type 0
HasFoundBefore store old new t = (from : Tables) × HasFound store old new from × (t ≡ upgraded from)

-- There were just the tables of a ledger, whose rows could be read. They are those of the version that is written now, where they were of
-- the one before it, and that is committed. The copy is of what they are then.
pub record IsUpgraded {S : Type 0} (store : Ghosts S) (old new : Held S) (copy : Tables) : Type 0 where
  pub is_whole : (state store old).now.schema ≡ whole
  pub found : HasFoundBefore store old new copy
  pub made : HasMade store (λ _. ⊤) upgraded old new

-- a crash may leave trees with that made whole, where there were just the tables of a ledger
pub record LeavesUpgraded {S : Type 0} (store : Ghosts S) (old : Held S) (trees : Trees) : Type 0 where
  pub is_whole : (state store old).now.schema ≡ whole
  pub tried : IsTried (λ _. ⊤) upgraded (state store old) trees

-- The tables were made where there was nothing, and there is no copy; or those of a ledger are of the version that is written now, and
-- there is one.
abbrev pub IsPrepared : {S : Type 0} → Ghosts S → Held S → Held S → Option Tables → Type 0
IsPrepared store old new None = IsBlank (state store old).now × HasMadeTables store old new
IsPrepared store old new (Some copy) = IsUpgraded store old new copy

-- A crash may leave trees with either of the two made whole. Of a database that has something else in it, it leaves only what it might
-- have left before.
abbrev pub LeavesPrepared : {S : Type 0} → Ghosts S → Held S → Trees → Type 0
LeavesPrepared store old trees = (IsBlank (state store old).now × LeavesNew (state store old) trees) ⊎ LeavesUpgraded store old trees

-- what is told was the tables that the database stood for, in the version that is written now
abbrev pub IsUpgradeOf : Database → Tables → Type 0
IsUpgradeOf db t = (old : Tables) × StandsFor db old × (t ≡ upgraded old)

-- There was nothing in the database, and new tables are told; or it had just the tables of a ledger, and these are told.
abbrev pub TellsWhatWas : Database → (Tables → Type 0) → Type 0
TellsWhatWas db told = (IsBlank db × Within (λ t. t ≡ new_tables) told) ⊎ ((db.schema ≡ whole) × Within (IsUpgradeOf db) told)

-- Over a connection that stands in place of another tables are told, and some are unless the disk lied or it is shut.
pub record WasPrepared {S : Type 0} (store : Ghosts S) (old : Held S) (new : Base S) : Type 0 where
  pub renewed : Held S
  pub is_renewed : IsRenewed store old renewed
  pub order : KnowsOrder store renewed
  pub is_ready : IsTrue new.ready
  pub telling : IsTelling store new.conn
  pub told : TellsWhatWas (state store renewed).now (TellsTables store new)
  pub crash : Survives (state store renewed) (state store new.conn) (LeavesPrepared store renewed)

-- Of a connection that stands in place of another the database is as it was.
pub record WasRefused {S : Type 0} (store : Ghosts S) (old new : Held S) : Type 0 where
  pub renewed : Held S
  pub is_renewed : IsRenewed store old renewed
  pub undone : HasUndone store renewed new
  pub crash : Survives (state store renewed) (state store new) (LeavesPrepared store renewed)
