-- What contracts see of a lock, of its passes, and of a pass that has the value in its hand.
use Rattle.std.specs.Prelude.{ℕ, List}
use Rattle.atomic_table.specs.Seated.{TableId}
use Rattle.turn_lock.specs.declared.view.View.{View}

-- which lock it is, and how many passes it may have
pub record LockView : Type 0 where
  pub lock : TableId
  pub seats : ℕ

-- of which lock the pass is, and what it knows
pub record PassView (E : Type 0) : Type 0 where
  pub lock : TableId
  pub view : View E

-- the view of the pass as its turn began, and the history and the count of faults that it was handed
pub record HandView (E : Type 0) : Type 0 where
  pub lock : TableId
  pub view : View E
  pub taken : List (ℕ × E)
  pub taken_faults : ℕ

-- the same, and the value as it is now
pub record HeldView (B E : Type 0) : Type 0 where
  pub lock : TableId
  pub view : View E
  pub taken : List (ℕ × E)
  pub taken_faults : ℕ
  pub book : B
