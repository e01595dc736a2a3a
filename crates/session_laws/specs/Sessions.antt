-- Sessions: the exchanges of one desk, and what they have to do with the history that all desks share.
use Rattle.std.specs.Prelude.{ℕ, ◌≡◌, ◌+◌, ◌-◌, ◌^◌, ◌<◌, ◌≤◌, ◌⊎◌, List, ◌++◌, length, All, Result, Ok, Err}
use Rattle.turn_lock.specs.Histories.{BeginsWith, past}
use Rattle.turn_lock.specs.declared.view.View.{View}
use Rattle.stock_model.specs.declared.deeds.Deed.{Deed}
use Rattle.stock_model.specs.declared.read_faults.ReadFault.{ReadFault}
use Rattle.stock_model.specs.declared.read_faults.ReadFault.TheVariants.{NoMemory}
use Rattle.stock_model.specs.declared.requests.Request.{Request}
use Rattle.session_laws.specs.Answers.{IsExchange}
use Rattle.session_laws.specs.Exchanges.{Exchange, stops_of, kept_in, failures, AreInOrder}
use Rattle.session_laws.specs.Makers.{with_makers, without_makers, deeds_by}

-- These exchanges lead the desk from what its pass knew at first to what it knows then. A count of faults in 64 bits that has come
-- to its end tells no more failures.
pub record Session (desk : ℕ) (old new : View Deed) (exchanges : List Exchange) : Type 0 where
  pub grows : BeginsWith new.seen old.seen
  pub stops : new.stops ≡ old.stops ++ stops_of exchanges
  pub in_order : AreInOrder (length old.seen) exchanges
  pub answers : All (IsExchange desk (without_makers new.seen)) exchanges
  pub made : new.made ≡ old.made ++ with_makers (kept_in exchanges)
  pub no_fewer_faults : old.seen_faults ≤ new.seen_faults
  pub failed : new.seen_faults < 2 ^ 64 - 1 → failures exchanges + old.faults ≤ new.faults

-- What a peer may rely on. All desks share one history, which grew from the first to the final one. The exchanges are answered by
-- it, in order, and of what was added since, this desk's deeds are those that it told its peer, each once, in order.
pub record Served (desk : ℕ) (first final : List Deed) (exchanges : List Exchange) : Type 0 where
  pub grows : BeginsWith final first
  pub in_order : AreInOrder (length first) exchanges
  pub answers : All (IsExchange desk final) exchanges
  pub kept : deeds_by desk (past first final) ≡ kept_in exchanges

-- the body is read as this, unless memory was wanting to read it
abbrev pub IsAsked : (List ℕ → Result Request ReadFault → Type 0) → List ℕ → Result Request ReadFault → Type 0
IsAsked reads body (Ok request) = reads body (Ok request)
IsAsked reads body (Err f) = (f ≡ NoMemory) ⊎ reads body (Err f)
