-- Lines that ask for turns of the worker, and for how many they count until something is published.
use Rattle.std.specs.Prelude.{ℕ, ◌≡◌, ◌⊎◌, ◌+◌, ◌<◌, ◌≤◌, false, Ok, List, [], ◌∷◌, length}
use Rattle.stock_model.specs.History.{accepted, covered}
use Rattle.stock_model.specs.PostReplies.{TellsStoreFailed}
use Rattle.stock_model.specs.Run.{max_line}
use Rattle.stock_model.specs.declared.answers.Answer.{Answer}
use Rattle.stock_model.specs.declared.requests.Request.{Request}
use Rattle.stock_model.specs.declared.requests.Request.TheVariants.{Post, Work, Settle, Report}
use Rattle.repost_worker.specs.Paces.{Pace}
use Rattle.repost_worker.specs.Published.{KeepsAlone}
use Rattle.voucher_json.specs.Requests.{IsReadAs}
use Rattle.stock_batch.specs.Paces.{PacedStep}

-- one line is answered, from one state of the book to the next
abbrev pub IsLineAnswered : Pace → List ℕ → Answer → Pace → Type 0
IsLineAnswered old line answer new = PacedStep (IsReadAs false) old line answer new

-- the line is `work` with so many turns
pub record AsksForTurns (line : List ℕ) (turns : ℕ) : Type 0 where
  pub short : length line ≤ max_line
  pub read : IsReadAs false line (Ok (Work turns))

-- the request is neither `work` nor `settle`
abbrev pub IsWithoutTurns : Request → Type 0
IsWithoutTurns (Post what) = Unit {0}
IsWithoutTurns (Work turns) = ⊥
IsWithoutTurns Settle = ⊥
IsWithoutTurns (Report query) = Unit {0}

abbrev pub AsksForNoTurns : List ℕ → Type 0
AsksForNoTurns line = (request : Request) → IsReadAs false line (Ok request) → IsWithoutTurns request

-- The line may count for so many turns: for those that it asks for, where records waited before it and it was not answered that the
-- store failed, and any line for none.
abbrev pub CountsFor : Pace → List ℕ → Answer → ℕ → Type 0
CountsFor old line answer turns =
    (turns ≡ 0) ⊎ (AsksForTurns line turns × (covered old.history < accepted old.history) × (TellsStoreFailed answer → ⊥))

-- the lines were answered and nothing was published meanwhile, and they may count for so many turns together
abbrev pub CountTogether : Pace → List (List ℕ) → List Answer → Pace → ℕ → Type 0
CountTogether old [] [] new turns = (new ≡ old) × (turns ≡ 0)
CountTogether old (line ∷ lines) (answer ∷ answers) new turns =
    (mid : Pace) × IsLineAnswered old line answer mid × KeepsAlone old.history mid.history
    × (own : ℕ) × CountsFor old line answer own × (others : ℕ) × CountTogether mid lines answers new others × (turns ≡ own + others)
CountTogether old [] (answer ∷ answers) new turns = ⊥
CountTogether old (line ∷ lines) [] new turns = ⊥
