-- How a body is answered through the lock.
use Rattle.std.specs.Prelude.{ℕ, ◌≡◌, ◌+◌, ◌≤◌, ◌⊎◌, Bool, List, [], ◌∷◌, length, Result, Ok, Err}
use Rattle.stock_model.specs.declared.deeds.Deed.{Deed}
use Rattle.stock_model.specs.declared.read_faults.ReadFault.{ReadFault}
use Rattle.stock_model.specs.declared.read_faults.ReadFault.TheVariants.{NoMemory}
use Rattle.stock_model.specs.declared.requests.Request.{Request}
use Rattle.turn_lock.specs.declared.view.View.{View}
use Rattle.session_laws.specs.Answers.{fault_answer}
use Rattle.session_laws.specs.Exchanges.{Exchange}
use Rattle.session_laws.specs.Sessions.{Session}
use Rattle.session_laws.specs.Turns.{IsTurn}
use Rattle.mirrored_sessions.specs.Steps.{printed_in}
use Rattle.desk_server.specs.Responses.{response_to}

-- what turns leave of what a pass knows
abbrev pub LeavesRest : View Deed → View Deed → Type 0
LeavesRest old new =
    new ≡ record old { seen = new.seen; seen_faults = new.seen_faults; made = new.made; stops = new.stops; faults = new.faults }

-- the request is answered in a turn of the pass, this is the response, and the answer says no more than so many records to be covered
pub record RespondsInTurn (desk : ℕ) (old new : View Deed) (request : Request) (close : Bool) (response : List ℕ) (covered : ℕ) : Type 0 where
  pub exchange : Exchange
  pub turn : IsTurn desk old new request exchange
  pub response_is : response ≡ response_to exchange.answer close
  pub covers : printed_in exchange.answer ≤ covered

-- what was asked is this, or that memory was wanting to tell why it is no request
abbrev pub IsAskedAs : Result Request ReadFault → Result Request ReadFault → Type 0
IsAskedAs (Ok request) asked = asked ≡ Ok request
IsAskedAs (Err f) asked = (asked ≡ Err f) ⊎ (asked ≡ Err NoMemory)

-- what was asked so is answered in one exchange, with a turn of the pass or without one, and this is the response
pub record Responds (desk : ℕ) (old new : View Deed) (is_asked : Result Request ReadFault → Type 0) (close : Bool) (response : List ℕ) : Type 0 where
  pub exchange : Exchange
  pub asked : is_asked exchange.asked
  pub session : Session desk old new (exchange ∷ [])
  pub one_turn : length new.stops ≤ length old.stops + 1
  pub response_is : response ≡ response_to exchange.answer close

-- and the answer says no more than so many records to be covered
pub record RespondsWithin (desk : ℕ) (old new : View Deed) (is_asked : Result Request ReadFault → Type 0) (close : Bool) (response : List ℕ)
    (covered : ℕ) : Type 0 where
  pub responds : Responds desk old new is_asked close response
  pub covers : printed_in responds.exchange.answer ≤ covered

-- the response to a body that is no request for this fault, or the one for want of memory
abbrev pub TellsFault : ReadFault → Bool → List ℕ → Type 0
TellsFault fault close response =
    (response ≡ response_to (fault_answer fault) close) ⊎ (response ≡ response_to (fault_answer NoMemory) close)
