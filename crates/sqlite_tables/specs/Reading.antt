-- What a query in a transaction shows of the tables, and what is read from its rows. Each says something only where the disk is
-- clean: where it has returned what was written.
use Rattle.std.specs.Prelude.{◌≡◌, IsTrue}
use Rattle.sqlite_trees.specs.declared.store.Store.{Ghosts}
use Rattle.sqlite.specs.State.{HasCleanDisk}
use Rattle.sqlite.specs.Held.{Held, state}
use Rattle.stock_keeper.specs.declared.tables.Tables.{Tables}
use Rattle.sqlite_tables.specs.Standing.{StandsFor}

-- the transaction goes on
abbrev pub HasStayed : {S : Type 0} → Ghosts S → Held S → Held S → Type 0
HasStayed store old new = HasCleanDisk (state store new) → IsTrue old.in_transaction → IsTrue new.in_transaction

-- what was shown is this of the tables that the database stands for, and it stands for them still
abbrev pub HasShown : {S R : Type 0} → Ghosts S → (Tables → R) → Held S → Held S → R → Type 0
HasShown store shown old new rows =
    HasCleanDisk (state store new) → (t : Tables) → StandsFor (state store old).now t → (rows ≡ shown t) × StandsFor (state store new).now t

-- the copy is the tables that the database stood for
abbrev pub HasRead : {S : Type 0} → Ghosts S → Held S → Held S → Tables → Type 0
HasRead store old new copy = HasCleanDisk (state store new) → (t : Tables) → StandsFor (state store old).now t → copy ≡ t
