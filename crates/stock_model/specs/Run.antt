-- A run over the lines of an input: each line has one answer, at its point of one history.
use Rattle.std.specs.Prelude.{ℕ, ◌≡◌, ◌<◌, ◌≤◌, ◌⊎◌, Result, Ok, Err, length, List, [], ◌∷◌, ◌++◌}
use Rattle.stock_model.specs.declared.deeds.Deed.{Deed}
use Rattle.stock_model.specs.declared.deeds.Deed.TheVariants.{Kept, Published}
use Rattle.stock_model.specs.declared.read_faults.ReadFault.{ReadFault}
use Rattle.stock_model.specs.declared.records.Record.{Record}
use Rattle.stock_model.specs.declared.requests.Request.{Request}
use Rattle.stock_model.specs.declared.requests.Request.TheVariants.{Post, Work, Settle, Report}
use Rattle.stock_model.specs.declared.answers.Answer.{Answer}
use Rattle.stock_model.specs.declared.answers.Answer.TheVariants.{Told}
use Rattle.stock_model.specs.declared.replies.Reply.TheVariants.{Worked, Settled, Long, Bad}
use Rattle.stock_model.specs.History.{accepted, covered}
use Rattle.stock_model.specs.Reports.{report}
use Rattle.stock_model.specs.PostReplies.{IsPostAnswer, TellsStoreFailed}

-- what a run has come to
pub record RunState : Type 0 where
  pub history : List Deed

-- the events are publications alone
abbrev pub ArePublications : List Deed → Type 0
ArePublications [] = Unit {0}
ArePublications (Kept item ∷ deeds) = ⊥
ArePublications (Published n ∷ deeds) = ArePublications deeds

-- some publications come, and then what keeps the records may fail
pub record Works (old : List Deed) (answer : Answer) (new : List Deed) : Type 0 where
  pub more : List Deed
  pub publications : ArePublications more
  pub grows : new ≡ old ++ more
  pub told : (answer ≡ Told (Worked (record { 0 = covered new })) []) ⊎ TellsStoreFailed answer

-- every accepted record is covered
abbrev pub TellsAll : Answer → List Deed → Type 0
TellsAll answer new = (covered new ≡ accepted new) × (answer ≡ Told (Settled (record { 0 = accepted new })) [])

-- some publications come, and then every accepted record is covered, or what keeps the records failed
pub record Settles (old : List Deed) (answer : Answer) (new : List Deed) : Type 0 where
  pub more : List Deed
  pub publications : ArePublications more
  pub grows : new ≡ old ++ more
  pub told : TellsAll answer new ⊎ TellsStoreFailed answer

-- a post carries desk 0
pub record Posts (old : List Deed) (answer : Answer) (new : List Deed) (item : Record) : Type 0 where
  pub desk : item.desk.0 ≡ 0
  pub answers : IsPostAnswer old item answer new

-- what a request may be answered, and which history it leaves
abbrev pub IsAnswerTo : List Deed → Request → Answer → List Deed → Type 0
IsAnswerTo old (Post what) answer new = (item : Record) × (item.what ≡ what) × Posts old answer new item
IsAnswerTo old (Work turns) answer new = Works old answer new
IsAnswerTo old Settle answer new = Settles old answer new
IsAnswerTo old (Report query) answer new = (answer ≡ report old query) × (new ≡ old)

-- the most bytes that a line may have
abbrev pub max_line : ℕ
max_line = 65_536

-- what a line of at most so many bytes is answered, where reads says which request it is, or why it is none
abbrev pub IsAnswered : (List ℕ → Result Request ReadFault → Type 0) → RunState → List ℕ → Answer → RunState → Type 0
IsAnswered reads old line answer new =
    ((request : Request) × reads line (Ok request) × IsAnswerTo old.history request answer new.history)
    ⊎ ((f : ReadFault) × reads line (Err f) × (answer ≡ Told (Bad f) []) × (new.history ≡ old.history))

-- One line: a longer one is long.
abbrev pub Step : (List ℕ → Result Request ReadFault → Type 0) → RunState → List ℕ → Answer → RunState → Type 0
Step reads old line answer new =
    ((max_line < length line) × (answer ≡ Told Long []) × (new.history ≡ old.history))
    ⊎ ((length line ≤ max_line) × IsAnswered reads old line answer new)

-- the answers to the lines, one after another
abbrev pub Run : (List ℕ → Result Request ReadFault → Type 0) → RunState → List (List ℕ) → List Answer → RunState → Type 0
Run reads old [] [] new = new ≡ old
Run reads old (line ∷ lines) (answer ∷ answers) new = (mid : RunState) × Step reads old line answer mid × Run reads mid lines answers new
Run reads old [] (answer ∷ answers) new = ⊥
Run reads old (line ∷ lines) [] new = ⊥
