-- A crash may leave what a connection tells.
use Rattle.std.specs.Prelude.{IsTrue, refl}
use Rattle.std.proofs.Math.Path.{sym, subst}
use Rattle.sqlite_trees.specs.declared.store.Store.{Ghosts}
use Rattle.sqlite.specs.Effect.{Database}
use Rattle.sqlite.specs.Held.{Held, state}
use Rattle.stock_keeper.specs.declared.tables.Tables.{Tables}
use Rattle.sqlite_tables.specs.Standing.{StandsFor, Tells, MayLeave}
use Rattle.sqlite_tables.specs.Whole.{whole}

-- trees stand for tables under the whole schema alone
pub restood : (db : Database) (t : Tables) → StandsFor db t → StandsFor (record { schema = whole; trees = db.trees }) t
restood db t stands =
    record { schema = refl; records = stands.records; rises = stands.rises; worths = stands.worths; head = stands.head }

pub stays_left : {S : Type 0} (store : Ghosts S) → ((s : S) → IsTrue (store.view s).is_open → store.recovers s (store.view s).committed) → (conn : Held S) (t : Tables)
    → Tells store conn t → MayLeave store conn t
stays_left store stays conn t told = record {
  clean = told.clean;
  trees = (state store conn).committed.trees;
  left = stays conn.store told.is_open;
  stands = restood (state store conn).committed t (subst (λ db. StandsFor db t) (sym told.committed) told.stands);
}
