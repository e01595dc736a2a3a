-- What a desk answers, by the one history that all desks share.
use Rattle.std.specs.Prelude.{ℕ, ◌≡◌, ◌+◌, ◌≤◌, ◌⊎◌, List, [], ◌++◌, length, take, Some, None, Result, Ok, Err}
use Rattle.stock_model.specs.declared.answers.Answer.{Answer}
use Rattle.stock_model.specs.declared.answers.Answer.TheVariants.{Told}
use Rattle.stock_model.specs.declared.deeds.Deed.{Deed}
use Rattle.stock_model.specs.declared.read_faults.ReadFault.{ReadFault}
use Rattle.stock_model.specs.declared.read_faults.ReadFault.TheVariants.{NoMemory}
use Rattle.stock_model.specs.declared.records.Record.{Record}
use Rattle.stock_model.specs.declared.replies.Reply.TheVariants.{Bad, MemoryFailed}
use Rattle.stock_model.specs.declared.requests.Request.{Request}
use Rattle.stock_model.specs.declared.requests.Request.TheVariants.{Post, Work, Settle, Report}
use Rattle.stock_model.specs.declared.vouchers.What.{What}
use Rattle.stock_model.specs.PostReplies.{IsPostAnswer}
use Rattle.stock_model.specs.Reports.{report}
use Rattle.session_laws.specs.Exchanges.{Exchange, known_after}

-- the answer to a post of this desk at this point of the history, and what the turn adds: the record where it is accepted, and
-- nothing where it is refused for its first fault or where what keeps the records failed
pub record IsPosted (desk : ℕ) (history : List Deed) (what : What) (answer : Answer) (kept : List Deed) : Type 0 where
  pub item : Record
  pub of_desk : item.desk.0 ≡ desk
  pub says : item.what ≡ what
  pub answers : IsPostAnswer history item answer (history ++ kept)

-- The answer to a request at this point of the history, and what the turn adds. A desk may neither work nor settle.
abbrev pub IsAnswer : ℕ → List Deed → Request → Answer → List Deed → Type 0
IsAnswer desk history (Post what) answer kept = IsPosted desk history what answer kept
IsAnswer desk history (Work turns) answer kept = ⊥
IsAnswer desk history Settle answer kept = ⊥
IsAnswer desk history (Report query) answer kept = (answer ≡ report history query) × (kept ≡ [])

-- memory was wanting, and nothing was added
abbrev pub LacksMemory : Answer → List Deed → Type 0
LacksMemory answer kept = (answer ≡ Told MemoryFailed []) × (kept ≡ [])

-- the request is answered at one point of the shared history, and there stands what the turn added
pub record IsAnswered (desk : ℕ) (history : List Deed) (request : Request) (exchange : Exchange) : Type 0 where
  pub stop : ℕ
  pub own : exchange.stop ≡ Some stop
  pub place : take (stop + length exchange.kept) history ≡ take stop history ++ exchange.kept
  pub answer : IsAnswer desk (take stop history) request exchange.answer exchange.kept

-- the answer to a body that is no request
abbrev pub fault_answer : ReadFault → Answer
fault_answer NoMemory = Told MemoryFailed []
fault_answer f = Told (Bad f) []

-- the answer to what was asked: a body that is no request gets no turn, and for any request memory may be wanting
abbrev pub IsReply : ℕ → List Deed → Result Request ReadFault → Exchange → Type 0
IsReply desk history (Err f) exchange = (exchange.answer ≡ fault_answer f) × (exchange.stop ≡ None) × (exchange.kept ≡ [])
IsReply desk history (Ok request) exchange = LacksMemory exchange.answer exchange.kept ⊎ IsAnswered desk history request exchange

-- an exchange of this desk, where all desks share this history
pub record IsExchange (desk : ℕ) (history : List Deed) (exchange : Exchange) : Type 0 where
  pub within : known_after 0 exchange ≤ length history
  pub reply : IsReply desk history exchange.asked exchange
