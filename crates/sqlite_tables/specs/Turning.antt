-- What a statement in a transaction makes of the tables. Each says something only where the disk is clean: where it has returned
-- what was written.
use Rattle.std.specs.Prelude.{◌≡◌, pos, true, List, fold, IsTrue, [], ◌∷◌}
use Rattle.sqlite_trees.specs.declared.store.Store.{Ghosts}
use Rattle.sqlite.specs.State.{State, HasCleanDisk, Shows, KeepsCommit}
use Rattle.sqlite.specs.Held.{Held, state}
use Rattle.stock_nums.specs.declared.numbers.RecordNo.{RecordNo}
use Rattle.stock_nums.specs.declared.place.Spot.{Spot}
use Rattle.stock_keeper.specs.declared.changes.SpotWorth.{SpotWorth}
use Rattle.stock_keeper.specs.declared.tables.Tables.{Tables}
use Rattle.stock_keeper.specs.Worths.{put, without}
use Rattle.sqlite_trees.specs.Tree.{Trees}
use Rattle.sqlite_tables.specs.Standing.{StandsFor}
use Rattle.sqlite_tables.specs.Whole.{whole}

-- the transaction goes on, and where its database stood for tables, it stands for those with the change
pub record Turns (May : Tables → Type 0) (change : Tables → Tables) (old new : State) : Type 0 where
  pub shows : Shows old new new.now old.committed true
  pub stands : (t : Tables) → StandsFor old.now t → May t → StandsFor new.now (change t)

abbrev pub HasTurned : {S : Type 0} → Ghosts S → (Tables → Type 0) → (Tables → Tables) → Held S → Held S → Type 0
HasTurned store May change old new =
    HasCleanDisk (state store new) → IsTrue old.in_transaction → Turns May change (state store old) (state store new)

-- nothing was committed
abbrev pub HasKept : {S : Type 0} → Ghosts S → Held S → Held S → Type 0
HasKept store old new = HasCleanDisk (state store new) → IsTrue old.in_transaction → KeepsCommit (state store old) (state store new)

-- the tables with this worth at its spot
abbrev pub with_worth : SpotWorth → Tables → Tables
with_worth w t = record t { worths = put t.worths w }

-- the tables with no worth at this spot
abbrev pub without_spot : Spot → Tables → Tables
without_spot spot t = record t { worths = without (spot ∷ []) t.worths }

-- the tables whose worths are made from so many records
abbrev pub with_covered : RecordNo → Tables → Tables
with_covered covered t = record t { covered = pos covered.0 }

-- the tables with each of these worths put in at its spot, one after another
abbrev pub with_worths : List SpotWorth → Tables → Tables
with_worths rows t = record t { worths = fold put t.worths rows }

-- the tables with no worth at any of these spots
abbrev pub without_spots : List Spot → Tables → Tables
without_spots spots t = record t { worths = without spots t.worths }

-- Statements ran one after another, or none did. The transaction goes on, and the tables have the change.
pub record Goes (change : Tables → Tables) (old new : State) : Type 0 where
  pub was_open : IsTrue new.is_open → IsTrue old.is_open
  pub committed : new.committed ≡ old.committed
  pub mode : IsTrue new.in_transaction
  pub stands : (t : Tables) → StandsFor old.now t → StandsFor new.now (change t)

abbrev pub HasGone : {S : Type 0} → Ghosts S → (Tables → Tables) → Held S → Held S → Type 0
HasGone store change old new =
    HasCleanDisk (state store new) → IsTrue old.in_transaction → Goes change (state store old) (state store new)

-- A whole transaction made the change and has committed it.
pub record Makes (May : Tables → Type 0) (change : Tables → Tables) (old new : State) : Type 0 where
  pub was_open : IsTrue old.is_open
  pub is_open : IsTrue new.is_open
  pub stands : (t : Tables) → StandsFor old.now t → May t → StandsFor new.now (change t)
  pub committed : new.committed ≡ new.now

abbrev pub HasMade : {S : Type 0} → Ghosts S → (Tables → Type 0) → (Tables → Tables) → Held S → Held S → Type 0
HasMade store May change old new = HasCleanDisk (state store new) → Makes May change (state store old) (state store new)

-- the database is as it was committed before
pub record Undoes (old new : State) : Type 0 where
  pub was_open : IsTrue old.is_open
  pub now : new.now ≡ old.committed
  pub committed : new.committed ≡ old.committed

-- the transaction changed nothing, where the connection is open still
abbrev pub HasUndone : {S : Type 0} → Ghosts S → Held S → Held S → Type 0
HasUndone store old new = HasCleanDisk (state store new) → IsTrue (state store new).is_open → Undoes (state store old) (state store new)

-- a crash during the transaction may leave trees with the change made whole
pub record IsTried (May : Tables → Type 0) (change : Tables → Tables) (old : State) (trees : Trees) : Type 0 where
  pub was_open : IsTrue old.is_open
  pub stands : (t : Tables) → StandsFor old.now t → May t → StandsFor (record { schema = whole; trees = trees }) (change t)
