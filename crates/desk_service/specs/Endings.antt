-- What the end of a lock tells of its passes.
use Rattle.std.specs.Prelude.{ℕ, ◌≡◌, ◌+◌, ◌≤◌, Option, List, length, All}
use Rattle.turn_lock.specs.Histories.{BeginsWith, past, made_by}
use Rattle.turn_lock.specs.Passes.{PassView}
use Rattle.turn_lock.specs.Views.{all_faults, made_through}
use Rattle.turn_lock.specs.declared.view.View.{View}
use Rattle.stock_io.specs.Heard.{Heard}
use Rattle.shared_listener.specs.Sharing.{IsShared}
use Rattle.shared_listener.specs.Steps.{comes}
use Rattle.shared_listener.specs.Turns.{SharedView}
use Rattle.shared_listener.specs.declared.step.Step.{Step}
use Rattle.desk_service.specs.Passes.{joined_all}

-- Pass 0 knew so much, all these were joined into it, and the lock ended with this history and count of faults. It begins with what each of them had
-- seen, none of them had seen more faults, and past the first history the events of each number are what these passes made.
pub record IsClosed {E : Type 0} (view : View E) (passes : List (PassView E)) (final : List (ℕ × E)) (faults : ℕ) : Type 0 where
  pub begins : BeginsWith final view.first
  pub saw_own : BeginsWith final view.seen
  pub saw_all : All (λ pass. BeginsWith final pass.view.seen) passes
  pub counted_all : All (λ pass. pass.view.seen_faults ≤ faults) passes
  pub made : (k : ℕ) → made_by k (past view.first final) ≡ made_through k (joined_all view passes)
  pub rose : view.first_faults + all_faults (joined_all view passes) ≡ faults

-- Pass 0 of a listener's lock knew so much, all these were joined into it, and the listener came back. The lock's history tells what desks
-- did there, among it how many peers came.
pub record IsUnshared {L P : Type 0} (telling : L → Heard P) (listens_to : L → Option (ℕ × Option ℕ)) (is_fresh : P → Type 0)
    (way : View (Step L P)) (ways : List (PassView (Step L P))) (listener : L) (accepted : ℕ) : Type 0 where
  pub shared : SharedView L P
  pub closed : IsClosed way ways shared.log 0
  pub is_shared : IsShared telling listens_to is_fresh shared.desks shared.wanted shared.failed shared.log listener
  pub count : accepted ≡ length (comes shared.log)
