-- What a look at a book does through its lock.
use Rattle.std.specs.Prelude.{◌≡◌, List, []}
use Rattle.stock_model.specs.declared.deeds.Deed.{Deed}
use Rattle.turn_lock.specs.declared.view.View.{View}
use Rattle.locked_worker.specs.LockedTurns.{IsStop}

-- The lock was taken once and given back as it was: nothing was added, and no fault was counted. Nobody else has published since the pass
-- saw the book last, so that what is published there was published by what the pass had seen.
pub record IsLook (old new : View Deed) : Type 0 where
  pub taken : List Deed
  pub stop : IsStop old taken [] new
  pub no_fault : new.faults ≡ old.faults
