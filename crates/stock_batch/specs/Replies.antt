-- The answers to lines, and their text.
use Rattle.std.specs.Prelude.{false, ℕ, ◌≡◌, ◌⊎◌, List, [], ◌∷◌, ◌++◌, All, filter}
use Rattle.std.specs.List.{flat_map}
use Rattle.stock_model.specs.declared.deeds.Deed.{Deed}
use Rattle.stock_model.specs.declared.answers.Answer.{Answer}
use Rattle.stock_model.specs.History.{IsLegal}
use Rattle.stock_model.specs.InputLines.{is_asked, is_blank}
use Rattle.stock_model.specs.Run.{Run}
use Rattle.repost_worker.specs.Paces.{Pace}
use Rattle.voucher_json.specs.Requests.{IsReadAs}
use Rattle.book_answers.specs.Answers.{ShowsKeptStock}
use Rattle.stock_batch.specs.Answers.{answer_line}
use Rattle.stock_batch.specs.Paces.{state_of, IsStopped, PacedStep, PacedRun}

-- From the history old on, the lines have these answers, each at its point of one history, which is the new one in the
-- end. Blank lines have no answer.
abbrev pub RunsOver : List (List ℕ) → List Deed → List Answer → List Deed → Type 0
RunsOver lines old answers new = Run (IsReadAs false) (state_of old) (filter is_asked lines) answers (state_of new)

-- and so they have where the worker keeps its pace
abbrev pub PacedOver : List (List ℕ) → Pace → List Answer → Pace → Type 0
PacedOver lines old answers new = PacedRun (IsReadAs false) old (filter is_asked lines) answers new

-- the text is that of the answers to these lines, from the first state of the book to the last, over one legal history; the
-- worker keeps its pace; and whatever a sheet shows, the ledger keeps the stock
pub record Answered (first : Pace) (lines : List (List ℕ)) (text : List ℕ) (last : Pace) : Type 0 where
  pub answers : List Answer
  pub run : RunsOver lines first.history answers last.history
  pub paced : PacedOver lines first answers last
  pub legal : IsLegal last.history
  pub keeps : All ShowsKeptStock answers
  pub text_is : text ≡ flat_map answer_line answers

-- memory was wanting for a line: turns may have published and no record was accepted, or it was answered and its reply could not be
-- kept to be told. A blank line wants none.
abbrev pub IsCutShort : List ℕ → Pace → Pace → Type 0
IsCutShort line old new = (is_blank line ≡ false) × (IsStopped old new ⊎ ((answer : Answer) × PacedStep (IsReadAs false) old line answer new))

-- nothing was done of these lines, or memory was wanting for the first of them
abbrev pub EndsWithin : List (List ℕ) → Pace → Pace → Type 0
EndsWithin [] old new = new ≡ old
EndsWithin (line ∷ lines) old new = (new ≡ old) ⊎ IsCutShort line old new

-- a front of these lines was answered, of which a front of the replies was told, and memory was wanting for what came next
pub record RunsShort (first : Pace) (lines : List (List ℕ)) (text : List ℕ) (last : Pace) : Type 0 where
  pub done : List (List ℕ)
  pub rest : List (List ℕ)
  pub are : lines ≡ done ++ rest
  pub untold : List ℕ
  pub mid : Pace
  pub answered : Answered first done (text ++ untold) mid
  pub ends : EndsWithin rest mid last

-- a line is answered: what waits to be written grows by the text of its answer, if it has one
pub record AnswersLine (line : List ℕ) (old new : Pace) (waiting after : List ℕ) : Type 0 where
  pub answers : List Answer
  pub paced : PacedOver (line ∷ []) old answers new
  pub keeps : All ShowsKeptStock answers
  pub text_is : after ≡ waiting ++ flat_map answer_line answers
