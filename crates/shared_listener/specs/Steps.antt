-- What desks did at a listener that they share. Each step stands with the number of the desk.
use Rattle.std.specs.Prelude.{ℕ, ◌≡◌, Bool, true, false, List, [], ◌∷◌, ◌++◌}
use Rattle.std.specs.declared.snapshot.Snapshot.{Snapshot}
use Rattle.shared_listener.specs.declared.step.Opening.{Opening}
use Rattle.shared_listener.specs.declared.step.Step.{Step}
use Rattle.shared_listener.specs.declared.step.Step.TheVariants.{Opened, Came, HungUp, Ended}

module _ {L P : Type 0} where
  -- the peers that came, in that order
  abbrev pub comes : List (ℕ × Step L P) → List P
  comes [] = []
  comes ((k, Opened opening) ∷ log) = comes log
  comes ((k, Came what) ∷ log) = what.value ∷ comes log
  comes ((k, HungUp what) ∷ log) = comes log
  comes ((k, Ended) ∷ log) = comes log

  -- the peers that were handed back, in that order
  abbrev pub hangs : List (ℕ × Step L P) → List P
  hangs [] = []
  hangs ((k, Opened opening) ∷ log) = hangs log
  hangs ((k, Came what) ∷ log) = hangs log
  hangs ((k, HungUp what) ∷ log) = what.value ∷ hangs log
  hangs ((k, Ended) ∷ log) = hangs log

  -- the desks to which the peers came
  abbrev pub comers : List (ℕ × Step L P) → List ℕ
  comers [] = []
  comers ((k, Opened opening) ∷ log) = comers log
  comers ((k, Came what) ∷ log) = k ∷ comers log
  comers ((k, HungUp what) ∷ log) = comers log
  comers ((k, Ended) ∷ log) = comers log

  -- some desk was told that no further peer comes
  abbrev pub has_ended : List (ℕ × Step L P) → Bool
  has_ended [] = false
  has_ended ((k, Opened opening) ∷ log) = has_ended log
  has_ended ((k, Came what) ∷ log) = has_ended log
  has_ended ((k, HungUp what) ∷ log) = has_ended log
  has_ended ((k, Ended) ∷ log) = true

  -- nothing was noted but that desks share this listener
  abbrev pub IsOpened : L → ℕ → ℕ → List (ℕ × Step L P) → Type 0
  IsOpened listener desks wanted log = (opening : Opening L) × (log ≡ (0, Opened opening) ∷ [])
      × (opening.listener.value ≡ listener) × (opening.desks ≡ desks) × (opening.wanted ≡ wanted)

  -- one note more, of the desk with this number
  abbrev pub NotesCame : ℕ → P → List (ℕ × Step L P) → List (ℕ × Step L P) → Type 0
  NotesCame number peer old new = (what : Snapshot P) × (new ≡ old ++ (number, Came what) ∷ []) × (what.value ≡ peer)

  abbrev pub NotesHungUp : ℕ → P → List (ℕ × Step L P) → List (ℕ × Step L P) → Type 0
  NotesHungUp number peer old new = (what : Snapshot P) × (new ≡ old ++ (number, HungUp what) ∷ []) × (what.value ≡ peer)

  abbrev pub NotesEnded : ℕ → List (ℕ × Step L P) → List (ℕ × Step L P) → Type 0
  NotesEnded number old new = new ≡ old ++ (number, Ended) ∷ []
