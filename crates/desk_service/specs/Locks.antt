-- Locks for desks, and pass 0 of each before anything was done.
use Rattle.std.specs.Prelude.{ℕ, ◌≡◌, ◌+◌, None, List}
use Rattle.atomic_table.specs.Seated.{TableId}
use Rattle.turn_lock.specs.Passes.{LockView}
use Rattle.turn_lock.specs.Views.{opened}
use Rattle.turn_lock.specs.declared.view.View.{View}
use Rattle.shared_listener.specs.Steps.{IsOpened}
use Rattle.shared_listener.specs.declared.step.Step.{Step}

-- the pass is of this lock, which has room for so many desks besides
abbrev pub IsLocked : LockView → TableId → ℕ → Type 0
IsLocked lock pass_lock desks = (lock.lock ≡ pass_lock) × (lock.seats ≡ desks + 1)

-- pass 0 of a lock round this listener, which so many desks share that want so many peers
pub record IsNewWay {L P : Type 0} (listener : L) (desks wanted : ℕ) (way : View (Step L P)) : Type 0 where
  pub log : List (ℕ × Step L P)
  pub is_opened : IsOpened listener desks wanted log
  pub view : way ≡ opened log 0 (record { plan = None; calls = 0; events = 0 })
