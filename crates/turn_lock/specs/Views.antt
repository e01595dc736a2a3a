-- What is said of views: of what a pass knows.
use Rattle.std.specs.Prelude.{◌≡◌, ℕ, ◌+◌, ◌-◌, List, [], ◌∷◌, ◌++◌, length, sum_by, ◌==◌, nat_lt, max, None, if◌then◌else◌}
use Rattle.turn_lock.specs.declared.view.Start.{Start}
use Rattle.turn_lock.specs.declared.view.View.{View}
use Rattle.turn_lock.specs.declared.view.Joined.{Joined}
use Rattle.turn_lock.specs.declared.view.Turn.{Turn}
use Rattle.turn_lock.specs.declared.view.Turn.TheVariants.{Rest, Drawn, Served}
use Rattle.turn_lock.specs.Histories.{past}

module _ {E : Type 0} where
  abbrev pub HasTicket : Turn E → ℕ → Type 0
  HasTicket Rest t = ⊥
  HasTicket (Drawn n) t = n ≡ t
  HasTicket (Served n log count) t = n ≡ t

  abbrev pub IsServed : Turn E → Type 0
  IsServed Rest = ⊥
  IsServed (Drawn n) = ⊥
  IsServed (Served n log count) = Unit {0}

  -- how many tickets it has
  abbrev pub tickets : Turn E → ℕ
  tickets Rest = 0
  tickets (Drawn n) = 1
  tickets (Served n log count) = 1

  abbrev pub ticket_of : Turn E → ℕ
  ticket_of Rest = 0
  ticket_of (Drawn n) = n
  ticket_of (Served n log count) = n

  -- the history with which the turn began
  abbrev pub taken_of : Turn E → List (ℕ × E)
  taken_of Rest = []
  taken_of (Drawn n) = []
  taken_of (Served n log count) = log

  -- the count of faults with which the turn began
  abbrev pub taken_faults_of : Turn E → ℕ
  taken_faults_of Rest = 0
  taken_faults_of (Drawn n) = 0
  taken_faults_of (Served n log count) = count

  -- the turns of the pass and of those that were joined into it
  abbrev pub all_turns : View E → ℕ
  all_turns v = length v.stops + sum_by (λ j. j.gives) v.joined

  -- how much the count of faults rose in these turns
  abbrev pub all_faults : View E → ℕ
  all_faults v = v.faults + sum_by (λ j. j.faults) v.joined

  -- what the joined pass with number k made, and nothing where there is none
  abbrev pub joined_made : ℕ → List (Joined E) → List (ℕ × E)
  joined_made k [] = []
  joined_made k (j ∷ js) = if j.number == k then j.made else joined_made k js

  -- what pass k made, so far as this pass can tell
  abbrev pub made_through : ℕ → View E → List (ℕ × E)
  made_through k v = if v.number == k then v.made else joined_made k v.joined

  -- the view of the pass that a lock is made with
  abbrev pub opened : List (ℕ × E) → ℕ → Start → View E
  opened log n start = record { passes = 1; number = 0; first = log; first_faults = n; start = start; seen = log; seen_faults = n; made = []; stops = []; faults = 0; split = 0; joined = []; turn = Rest }

  -- the view of a pass that was joined into another
  abbrev pub spent : View E
  spent = record { passes = 0; number = 0; first = []; first_faults = 0; start = record { plan = None; calls = 0; events = 0 }; seen = []; seen_faults = 0; made = []; stops = []; faults = 0; split = 0; joined = []; turn = Rest }

  -- one more pass was split off
  abbrev pub split_left : View E → View E
  split_left v = record v { split = v.split + 1 }

  -- the pass that is split off has seen what the old one had
  abbrev pub split_right : View E → View E
  split_right v = record (opened v.first v.first_faults v.start) { number = v.split + 1; seen = v.seen; seen_faults = v.seen_faults }

  -- the longer history
  abbrev pub longer_seen : View E → View E → List (ℕ × E)
  longer_seen v w = if nat_lt (length v.seen) (length w.seen) then w.seen else v.seen

  -- the count of faults of the longer history, of equally long ones the greater
  abbrev pub longer_faults : View E → View E → ℕ
  longer_faults v w = if nat_lt (length v.seen) (length w.seen) then w.seen_faults else (if nat_lt (length w.seen) (length v.seen) then v.seen_faults else max v.seen_faults w.seen_faults)

  -- what is kept of the pass w, which is joined into the pass v
  abbrev pub kept_of : View E → View E → Joined E
  kept_of v w = record { number = w.number; made = w.made; gives = length w.stops; faults = w.faults; kept_seen = v.seen; other_seen = w.seen; kept_seen_faults = v.seen_faults; other_seen_faults = w.seen_faults }

  -- the pass w is joined into the pass v
  abbrev pub joined_view : View E → View E → View E
  joined_view v w = record v { passes = v.passes + w.passes; seen = longer_seen v w; seen_faults = longer_faults v w; joined = kept_of v w ∷ v.joined }

  -- the pass has drawn the ticket t
  abbrev pub drawn : View E → ℕ → View E
  drawn v t = record v { turn = Drawn t }

  -- the turn of the pass begins with this history and this count of faults
  abbrev pub served : View E → ℕ → List (ℕ × E) → ℕ → View E
  served v t log count = record v { turn = Served t log count }

  -- the pass ends its turn with this history and this count of faults
  abbrev pub given : View E → List (ℕ × E) → ℕ → View E
  given v log count = record v { seen = log; seen_faults = count; made = v.made ++ past (taken_of v.turn) log; stops = v.stops ++ length (taken_of v.turn) ∷ []; faults = v.faults + (count - taken_faults_of v.turn); turn = Rest }
