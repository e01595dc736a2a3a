-- Databases whose tables stand by rowid, and a connection that was made anew.
use Rattle.std.specs.Prelude.{◌≡◌, ◌≤◌, false, IsTrue, List}
use Rattle.std.specs.List.{AllByRecursion}
use Rattle.sqlite_value.specs.Order.{Row}
use Rattle.sqlite_trees.specs.declared.store.Store.{Ghosts}
use Rattle.sqlite_trees.specs.Tree.{Trees, rowid, IsTable}
use Rattle.sqlite_trees.specs.View.{doubt, is_int}
use Rattle.sqlite.specs.Effect.{Database, IsDatabase}
use Rattle.sqlite.specs.State.{State, HasCleanDisk}
use Rattle.sqlite.specs.Held.{Held, state}

-- the rows stand by rowid, and each rowid is an integer and stands once
abbrev pub IsRising : List Row → Type 0
IsRising rows = IsTable rows × AllByRecursion (λ r. IsTrue (is_int (rowid r))) rows

-- the trees obey their schema, and so stand the rows of each table
pub record IsSorted (db : Database) : Type 0 where
  pub sound : IsDatabase db
  pub rises : AllByRecursion (λ t. IsRising (db.trees t.tree)) db.schema.tables

-- no transaction is open, and the database is sorted, unless the disk lied or the connection is shut
pub record KnowsOrder {S : Type 0} (store : Ghosts S) (conn : Held S) : Type 0 where
  pub settled : conn.in_transaction ≡ false
  pub sorted : HasCleanDisk (state store conn) → IsTrue (state store conn).is_open → IsSorted (state store conn).now

-- the connection is open, with nothing changed since the last commit, unless the disk lied
abbrev pub IsUnchanged : {S : Type 0} → Ghosts S → Held S → Type 0
IsUnchanged store conn = HasCleanDisk (state store conn) → IsTrue (state store conn).is_open × ((state store conn).now ≡ (state store conn).committed)

-- what was committed last is there, with nothing changed since, and a crash leaves nothing that it might not have left before
pub record Renews (old new : State) : Type 0 where
  pub was_open : IsTrue old.is_open
  pub is_open : IsTrue new.is_open
  pub trees : new.now.trees ≡ old.committed.trees
  pub committed : new.committed ≡ new.now
  pub crash : (db : Trees) → new.may_leave db → old.may_leave db

-- The second connection stands in place of the first, which was let go or is the same. It says something only where the disk is clean.
pub record IsRenewed {S : Type 0} (store : Ghosts S) (old new : Held S) : Type 0 where
  pub clean : doubt (state store old).is_clean ≤ doubt (state store new).is_clean
  pub shield : (state store old).IsShielded → (state store new).IsShielded
  pub renews : HasCleanDisk (state store new) → Renews (state store old) (state store new)

-- of a connection that could not be made anew its store is left, and a crash leaves nothing that it might not have left before
abbrev pub LeavesNoMore : {S : Type 0} → Ghosts S → Held S → S → Type 0
LeavesNoMore store old it = (db : Trees) → store.recovers it db → (state store old).may_leave db
