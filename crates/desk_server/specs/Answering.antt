-- How a request is answered over a book.
use Rattle.std.specs.Prelude.{ℕ, ◌≡◌, ◌≤◌, ◌⊎◌, Bool, List, [], ◌++◌, Option, Some, None, ⊤}
use Rattle.stock_nums.specs.declared.numbers.RecordNo.{RecordNo}
use Rattle.stock_model.specs.declared.answers.Answer.{Answer}
use Rattle.stock_model.specs.declared.answers.Answer.TheVariants.{Told}
use Rattle.stock_model.specs.declared.deeds.Deed.{Deed}
use Rattle.stock_model.specs.declared.replies.Reply.TheVariants.{Accepted, MemoryFailed}
use Rattle.stock_model.specs.declared.requests.Request.{Request}
use Rattle.stock_model.specs.declared.requests.Request.TheVariants.{Post, Work, Settle, Report}
use Rattle.generation_book.specs.State.{BookState}
use Rattle.generation_book.specs.Follows.{start_of, Follows}
use Rattle.session_laws.specs.Answers.{IsAnswer, LacksMemory}
use Rattle.session_laws.specs.Sentences.{AcceptsNone}
use Rattle.mirrored_sessions.specs.Steps.{printed_in}
use Rattle.book_answers.specs.Answers.{HasText}
use Rattle.book_answers.specs.Posts.{CountsFailure}
use Rattle.desk_server.specs.Responses.{response_to}
use Rattle.desk_server.specs.Responding.{bytes_of}
use Rattle.desk_server.specs.declared.responding.Response.TheVariants.{Text}
use Rattle.desk_server.specs.declared.answering.Answered.{Answered}
use Rattle.desk_server.specs.declared.answering.Answered.TheVariants.{Whole, Untold}

-- a desk may neither work nor settle
abbrev pub IsOfDesk : Request → Type 0
IsOfDesk (Post what) = ⊤
IsOfDesk (Work turns) = ⊥
IsOfDesk Settle = ⊥
IsOfDesk (Report query) = ⊤

-- the number under which a record was accepted, where the answer tells that one was
abbrev pub TellsNumber : Answer → Option RecordNo → Type 0
TellsNumber answer (Some n) = answer ≡ Told (Accepted n) []
TellsNumber answer None = AcceptsNone answer

-- the request is answered over the book, at this point of its history, this is the response, and the answer says no more than so many
-- records to be covered
pub record AnswersOver (desk : ℕ) (request : Request) (close : Bool) (old new : BookState) (response : List ℕ) (covered : ℕ) : Type 0 where
  pub answer : Answer
  pub kept : List Deed
  pub answers : LacksMemory answer kept ⊎ IsAnswer desk old.history request answer kept
  pub grows : new.history ≡ old.history ++ kept
  pub faults : CountsFailure answer old.keeper.faults new.keeper.faults
  pub follows : Follows (start_of old) new
  pub response_is : response ≡ response_to answer close
  pub covers : printed_in answer ≤ covered

-- the answer whose response is still to be made has a text
abbrev pub CanBeTold : Answered → Type 0
CanBeTold (Whole response) = ⊤
CanBeTold (Untold answer) = HasText answer

-- these are the bytes of the response to this answer, or of the one for want of memory
abbrev pub TellsOrLacksMemory : Answer → Bool → List ℕ → Type 0
TellsOrLacksMemory answer close bytes = (bytes ≡ response_to answer close) ⊎ (bytes ≡ response_to (Told MemoryFailed []) close)

-- the response has these bytes: it is whole, or it is made of the answer, or memory is wanting for that
abbrev pub ComesTo : Answered → Bool → List ℕ → Type 0
ComesTo (Whole response) close bytes = bytes ≡ bytes_of response
ComesTo (Untold answer) close bytes = TellsOrLacksMemory answer close bytes

-- no sheet is written yet: of a report its answer is left, or that memory was wanting
abbrev pub WritesNoSheet : Request → Answered → Type 0
WritesNoSheet (Report query) (Whole (Text text)) = ⊥
WritesNoSheet request answered = ⊤

-- how many records the answer says to be covered that is still to be told. A response that is whole says nothing of it
abbrev pub covered_in : Answered → ℕ
covered_in (Whole response) = 0
covered_in (Untold answer) = printed_in answer

-- the request is answered over the book, at this point of its history, whatever bytes the response comes to
abbrev pub AnswersOnceTold : ℕ → Request → Bool → BookState → BookState → Answered → Type 0
AnswersOnceTold desk request close old new answered =
    (response : List ℕ) → ComesTo answered close response → AnswersOver desk request close old new response (covered_in answered)
