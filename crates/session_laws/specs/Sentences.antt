-- What a peer may read off an answer.
use Rattle.std.specs.Prelude.{ℕ, ◌≡◌, ◌≢◌, ◌+◌, ◌≤◌, List, [], ◌∷◌, ◌++◌, length, take, Some, None, Ok}
use Rattle.stock_nums.specs.declared.numbers.RecordNo.{RecordNo}
use Rattle.stock_model.specs.declared.answers.Answer.{Answer}
use Rattle.stock_model.specs.declared.answers.Answer.TheVariants.{Told}
use Rattle.stock_model.specs.declared.deeds.Deed.{Deed}
use Rattle.stock_model.specs.declared.deeds.Deed.TheVariants.{Kept}
use Rattle.stock_model.specs.declared.read_faults.ReadFault.{ReadFault}
use Rattle.stock_model.specs.declared.records.Record.{Record}
use Rattle.stock_model.specs.declared.replies.Reply.TheVariants.{Accepted, Bad, MemoryFailed}
use Rattle.stock_model.specs.declared.requests.Request.{Request}
use Rattle.stock_model.specs.declared.requests.Request.TheVariants.{Post}
use Rattle.stock_model.specs.declared.vouchers.What.{What}
use Rattle.stock_model.specs.Faults.{fault}
use Rattle.stock_model.specs.History.{records, accepted}
use Rattle.session_laws.specs.Answers.{IsAnswer}
use Rattle.session_laws.specs.Exchanges.{Exchange}

-- the answer tells neither that the body is no request nor that memory was wanting
pub record IsToRequest (answer : Answer) : Type 0 where
  pub not_bad : (f : ReadFault) → answer ≢ Told (Bad f) []
  pub had_memory : answer ≢ Told MemoryFailed []

-- the answer does not tell that a record was accepted
abbrev pub AcceptsNone : Answer → Type 0
AcceptsNone answer = (n : RecordNo) → answer ≢ Told (Accepted n) []

-- what was asked is to post a record
abbrev pub AsksToPost : Exchange → Type 0
AsksToPost exchange = (what : What) × (exchange.asked ≡ Ok (Post what))

-- the desk's record that was asked for was accepted under this number, as the history has it
pub record IsAcceptedAs (desk : ℕ) (first final : List Deed) (exchange : Exchange) (n : RecordNo) : Type 0 where
  pub item : Record
  pub of_desk : item.desk.0 ≡ desk
  pub asked : exchange.asked ≡ Ok (Post item.what)
  pub stop : ℕ
  pub own : exchange.stop ≡ Some stop
  pub since : length first ≤ stop
  pub sound : fault (records (take stop final)) item ≡ None
  pub number : n.0 ≡ accepted (take stop final) + 1
  pub kept : exchange.kept ≡ Kept item ∷ []
  pub place : take (stop + 1) final ≡ take stop final ++ Kept item ∷ []

-- a request was answered by the history at a stop of the desk's
pub record IsAnsweredOn (desk : ℕ) (first final : List Deed) (exchange : Exchange) : Type 0 where
  pub request : Request
  pub asked : exchange.asked ≡ Ok request
  pub stop : ℕ
  pub own : exchange.stop ≡ Some stop
  pub since : length first ≤ stop
  pub answer : IsAnswer desk (take stop final) request exchange.answer exchange.kept
