-- Runs over lines in which the worker keeps its pace, and the keeper of the book is called as it must be: what each line does.
use Rattle.std.specs.Prelude.{ℕ, ◌≡◌, ◌<◌, ◌≤◌, Result, Ok, Err, Option, Some, None, List, [], ◌∷◌, ◌++◌, length}
use Rattle.stock_model.specs.declared.deeds.Deed.{Deed}
use Rattle.stock_model.specs.declared.answers.Answer.{Answer}
use Rattle.stock_model.specs.declared.answers.Answer.TheVariants.{Told}
use Rattle.stock_model.specs.declared.read_faults.ReadFault.{ReadFault}
use Rattle.stock_model.specs.declared.replies.Reply.{Reply}
use Rattle.stock_model.specs.declared.replies.Reply.TheVariants.{StoreFailed}
use Rattle.stock_model.specs.declared.requests.Request.{Request}
use Rattle.stock_model.specs.declared.requests.Request.TheVariants.{Post, Work, Settle, Report}
use Rattle.stock_model.specs.PostReplies.{TellsStoreFailed}
use Rattle.stock_model.specs.Run.{max_line, RunState, Step}
use Rattle.stock_keeper.specs.Calls.{KeeperState, IsFailed, AreDone}
use Rattle.stock_keeper.specs.declared.fault.KeepFault.{KeepFault}
use Rattle.stock_keeper.specs.declared.fault.KeepFault.TheVariants.{Failed, NoMemory}
use Rattle.repost_worker.specs.Paces.{Pace, IsInPace, IsSamePace, WorksInPace, StopsInPace}
use Rattle.repost_worker.specs.Published.{Publishes}

-- what a request does to the pace: only turns change it, as many as were asked for or as were made before the store failed
abbrev pub KeepsPace : Pace → Request → Answer → Pace → Type 0
KeepsPace old (Post what) answer new = IsSamePace old new
KeepsPace old (Work turns) answer new =
    ((TellsStoreFailed answer → ⊥) → WorksInPace old turns new) × (TellsStoreFailed answer → StopsInPace Failed old (Some turns) new) × IsInPace new
KeepsPace old Settle answer new = (TellsStoreFailed answer → StopsInPace Failed old None new) × IsInPace new
KeepsPace old (Report query) answer new = IsSamePace old new

-- one more call was made and it failed, where the answer tells so, and else none
abbrev pub IsLastCall : Answer → KeeperState → KeeperState → Type 0
IsLastCall (Told StoreFailed heads) old new = IsFailed old new
IsLastCall answer old new = new ≡ old

-- each event of a line was one call of the keeper that did what it was asked for, and where the store is said to have failed, one
-- more was made, which failed
pub record CallsKeeper (old : Pace) (answer : Answer) (new : Pace) : Type 0 where
  pub more : List Deed
  pub grows : new.history ≡ old.history ++ more
  pub between : KeeperState
  pub done : AreDone more old.keeper between
  pub last : IsLastCall answer between new.keeper

-- memory was wanting: what turns had published by then stands, and no record was accepted
abbrev pub IsStopped : Pace → Pace → Type 0
IsStopped old new = Publishes (Some NoMemory) old.history old.keeper new.history new.keeper

-- what is answered after turns of which none was refused, or the last for this
abbrev pub IsAfterTurns : Option KeepFault → Reply → Answer → Type 0
IsAfterTurns None reply answer = answer ≡ Told reply []
IsAfterTurns (Some Failed) reply answer = TellsStoreFailed answer
IsAfterTurns (Some NoMemory) reply answer = ⊥

abbrev pub state_of : List Deed → RunState
state_of history = record { history = history }

-- one line is answered, and the request that it is keeps the pace; one that is long, or no request, leaves it as it is. What this
-- comes to over many lines is told by the laws of work_laws.
pub record PacedStep (reads : List ℕ → Result Request ReadFault → Type 0) (old : Pace) (line : List ℕ) (answer : Answer) (new : Pace) : Type 0 where
  pub step : Step reads (state_of old.history) line answer (state_of new.history)
  pub keeps : length line ≤ max_line → (request : Request) → reads line (Ok request) → KeepsPace old request answer new
  pub bad : length line ≤ max_line → (fault : ReadFault) → reads line (Err fault) → IsSamePace old new
  pub long : max_line < length line → IsSamePace old new
  pub calls : CallsKeeper old answer new

-- the answers to the lines, one after another
abbrev pub PacedRun : (List ℕ → Result Request ReadFault → Type 0) → Pace → List (List ℕ) → List Answer → Pace → Type 0
PacedRun reads old [] [] new = new ≡ old
PacedRun reads old (line ∷ lines) (answer ∷ answers) new = (mid : Pace) × PacedStep reads old line answer mid × PacedRun reads mid lines answers new
PacedRun reads old [] (answer ∷ answers) new = ⊥
PacedRun reads old (line ∷ lines) [] new = ⊥
