-- What a batch under way stands for.
use Rattle.std.specs.Prelude.{ℕ, ◌≡◌, List, All, ◌++◌}
use Rattle.std.specs.List.{flat_map}
use Rattle.stock_model.specs.declared.answers.Answer.{Answer}
use Rattle.stock_model.specs.History.{IsLegal}
use Rattle.stock_model.specs.InputLines.{lines_of}
use Rattle.repost_worker.specs.Paces.{Pace}
use Rattle.book_answers.specs.Answers.{ShowsKeptStock}
use Rattle.stock_batch.specs.Answers.{answer_line}
use Rattle.stock_batch.specs.declared.batch.Batch.{Batch}
use Rattle.stock_batch.specs.InputParts.{Parted}
use Rattle.stock_batch.specs.OpenLines.{StandsForLine}
use Rattle.stock_batch.specs.Replies.{PacedOver, RunsShort}

-- from the first state of the book on these bytes were taken and this text was written: the whole lines are answered, by what was
-- written and by what waits, and the open line stands for the rest
pub record StandsFor {K : Type 0} (first : Pace) (batch : Batch K) (taken written : List ℕ) : Type 0 where
  pub whole : List (List ℕ)
  pub rest : List ℕ
  pub answers : List Answer
  pub parted : Parted taken whole rest
  pub under_way : StandsForLine batch.line rest
  pub paced : PacedOver whole first answers batch.book
  pub legal : IsLegal batch.book.history
  pub keeps : All ShowsKeptStock answers
  pub text_is : written ++ batch.waiting.items ≡ flat_map answer_line answers

-- after these further bytes were taken, and nothing written
abbrev pub GoesOn : {K : Type 0} → Batch K → List ℕ → Batch K → Type 0
GoesOn old piece new = (first : Pace) (taken written : List ℕ) → StandsFor first old taken written → StandsFor first new (taken ++ piece) written

-- memory was wanting while these further bytes were taken, and nothing was written
abbrev pub StopsShort : {K : Type 0} → Batch K → List ℕ → Pace → Type 0
StopsShort old piece last = (first : Pace) (taken written : List ℕ) → StandsFor first old taken written → RunsShort first (lines_of (taken ++ piece)) written last

-- after all that waited was written
abbrev pub WritesOut : {K : Type 0} → Batch K → Batch K → Type 0
WritesOut old new = (first : Pace) (taken written : List ℕ) → StandsFor first old taken written → StandsFor first new taken (written ++ old.waiting.items)

-- these bytes were taken, and some replies written or dropped
abbrev pub HasTaken : {K : Type 0} → Pace → Batch K → List ℕ → Type 0
HasTaken first batch taken = (written : List ℕ) × StandsFor first batch taken written

-- after these further bytes were taken
abbrev pub TakesMore : {K : Type 0} → Batch K → List ℕ → Batch K → Type 0
TakesMore old bytes new = (first : Pace) (taken : List ℕ) → HasTaken first old taken → HasTaken first new (taken ++ bytes)
