-- What contracts see of stored tables: the connection, and whether it is known which tables its database stands for.
use Rattle.std.specs.Prelude.{◌≡◌, Bool, false, Option, IsTrue, IfSome, refl}
use Rattle.std.specs.Coded.{Coded, code_by, coded×, coded_bool}
use Rattle.sqlite_trees.specs.declared.store.Store.{Ghosts}
use Rattle.sqlite.specs.Held.{Held, held_code}
use Rattle.stock_keeper.specs.declared.tables.Tables.{Tables}
use Rattle.stock_keeper.specs.Worths.{AreInOrder}
use Rattle.sqlite_tables.specs.Standing.{Tells, IsTelling, MayLeave}

pub record Base (S : Type 0) : Type 0 where
  pub conn : Held S
  pub ready : Bool

abbrev pub base_code : {S : Type 0} → Coded S → Coded (Base S)
base_code {S} store = code_by (Held S × Bool) (coded× (held_code store) coded_bool) (λ b. (b.conn, b.ready)) (λ p. record { conn = p.0; ready = p.1 }) (λ _. refl)

-- no transaction is open, and where it is ready, it tells tables
pub record IsSettled {S : Type 0} (store : Ghosts S) (conn : Held S) (ready : Bool) : Type 0 where
  pub settled : conn.in_transaction ≡ false
  pub telling : IsTrue ready → IsTelling store conn

-- the copy has its worths in order, and is what the connection tells
abbrev pub IsCopy : {S : Type 0} → Ghosts S → Held S → Tables → Type 0
IsCopy store conn copy = AreInOrder copy.worths × ((t : Tables) → Tells store conn t → copy ≡ t)

-- no transaction is open, and where it is ready, it tells tables; a copy that is kept is of these
pub record IsStored {S : Type 0} (store : Ghosts S) (conn : Held S) (ready : Bool) (kept : Option Tables) : Type 0 where
  pub settled : IsSettled store conn ready
  pub copied : IfSome kept (IsCopy store conn)

abbrev pub TellsTables : {S : Type 0} → Ghosts S → Base S → Tables → Type 0
TellsTables store b t = IsTrue b.ready × Tells store b.conn t

abbrev pub MayLeaveTables : {S : Type 0} → Ghosts S → Base S → Tables → Type 0
MayLeaveTables store b t = IsTrue b.ready × MayLeave store b.conn t
