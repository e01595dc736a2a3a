-- The two kinds of steps that make a session: an exchange that takes a turn at the lock, and one that takes none.
use Rattle.std.specs.Prelude.{ℕ, ◌≡◌, ◌+◌, ◌-◌, ◌^◌, ◌<◌, ◌≤◌, ◌⊎◌, List, [], ◌∷◌, ◌++◌, length, Some, None, Result, Ok, Err}
use Rattle.turn_lock.specs.Histories.{BeginsWith, past}
use Rattle.turn_lock.specs.declared.view.View.{View}
use Rattle.stock_model.specs.declared.answers.Answer.{Answer}
use Rattle.stock_model.specs.declared.answers.Answer.TheVariants.{Told}
use Rattle.stock_model.specs.declared.deeds.Deed.{Deed}
use Rattle.stock_model.specs.declared.read_faults.ReadFault.{ReadFault}
use Rattle.stock_model.specs.declared.replies.Reply.TheVariants.{MemoryFailed}
use Rattle.stock_model.specs.declared.requests.Request.{Request}
use Rattle.session_laws.specs.Answers.{IsAnswer, LacksMemory, fault_answer}
use Rattle.session_laws.specs.Exchanges.{Exchange, store_failures}
use Rattle.session_laws.specs.Makers.{with_makers, without_makers}

-- the request was answered in one turn of the pass, which took this history and gave it back with what the turn added
pub record IsTurn (desk : ℕ) (old new : View Deed) (request : Request) (exchange : Exchange) : Type 0 where
  pub taken : List (ℕ × Deed)
  pub begins : BeginsWith taken old.seen
  pub asked : exchange.asked ≡ Ok request
  pub stop : exchange.stop ≡ Some (length taken)
  pub answer : LacksMemory exchange.answer exchange.kept ⊎ IsAnswer desk (without_makers taken) request exchange.answer exchange.kept
  pub seen : new.seen ≡ taken ++ with_makers exchange.kept
  pub stops : new.stops ≡ old.stops ++ length taken ∷ []
  pub made : new.made ≡ old.made ++ past taken new.seen
  pub no_fewer_faults : old.seen_faults ≤ new.seen_faults
  pub failed : new.seen_faults < 2 ^ 64 - 1 → store_failures exchange.answer + old.faults ≤ new.faults

-- the answer without a turn: the body is no request, or memory was wanting
abbrev pub quiet_answer : Result Request ReadFault → Answer
quiet_answer (Ok request) = Told MemoryFailed []
quiet_answer (Err f) = fault_answer f

-- the body was answered without a turn
pub record IsQuiet (exchange : Exchange) : Type 0 where
  pub stop : exchange.stop ≡ None
  pub kept : exchange.kept ≡ []
  pub answer : exchange.answer ≡ quiet_answer exchange.asked
