-- How a body is answered where there is a mirror beside the lock.
use Rattle.std.specs.Prelude.{ℕ, ◌≡◌, ◌+◌, ◌≤◌, Bool, List, [], ◌∷◌, length, Result}
use Rattle.stock_model.specs.declared.deeds.Deed.{Deed}
use Rattle.stock_model.specs.declared.read_faults.ReadFault.{ReadFault}
use Rattle.stock_model.specs.declared.records.Record.{Record}
use Rattle.stock_model.specs.declared.requests.Request.{Request}
use Rattle.turn_lock.specs.declared.view.View.{View}
use Rattle.mirrored_sessions.specs.Sessions.{Known, MirroredSession}
use Rattle.mirrored_sessions.specs.Steps.{Step, asked_in, answer_in}
use Rattle.desk_server.specs.Responses.{response_to}

-- what a desk knows: this of the lock by its pass, and these records of the mirror; and so many its answers said at most to be covered
abbrev pub known : View Deed → List Record → ℕ → Known
known view read printed = record { view = view; read = read; printed = printed }

-- what was asked so is answered in one step, with a turn of the pass or without one, and this is the response
pub record RespondsInStep (desk : ℕ) (old new : Known) (is_asked : Result Request ReadFault → Type 0) (close : Bool) (response : List ℕ) : Type 0 where
  pub step : Step
  pub asked : is_asked (asked_in step)
  pub session : MirroredSession desk old new (step ∷ [])
  pub one_turn : length new.view.stops ≤ length old.view.stops + 1
  pub response_is : response ≡ response_to (answer_in step) close
