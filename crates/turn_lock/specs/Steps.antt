-- What each step tells the pass that takes it. m is the seat before, n the number that was found, and m' the seat after.
--
-- | Kind of step | On                                  | Whose view changes                                              | The value                 |
-- |--------------|-------------------------------------|-----------------------------------------------------------------|---------------------------|
-- | split        | word 0, loaded                      | pass 0, and the new one: split_left, split_right                | stays                     |
-- | join         | word 0, loaded                      | pass 0: joined_view. The other one is spent                     | stays                     |
-- | look         | word 0, loaded; or a draw that      | none: looked, and checked after a join                          | stays                     |
-- |              | found another ticket                |                                                                 |                           |
-- | draw         | word 0, from t to t + 1             | its own: drew                                                   | stays                     |
-- | come         | word 1, loaded                      | its own, where it found its ticket: came                        | out of the slot's home    |
-- | exchange out | the slot, which is out              | none                                                            | goes into the hand        |
-- | exchange in  | the slot, which is out              | none                                                            | comes back, with its rise |
-- | raise        | word 1, from t to t + 1             | its own, which notes what the value has: raised                 | home again                |
-- | ring         | a bell, from t to t + 1             | none: rang                                                      | stays                     |
use Rattle.std.specs.Prelude.{◌≡◌, ◌≢◌, ℕ, ◌^◌, ◌<◌, ◌≤◌, List, [], ◌∷◌, ◌++◌, Option, Some}
use Rattle.atomic_table.specs.Table.{Me, Step}
use Rattle.turn_lock.specs.declared.view.Start.{Start}
use Rattle.turn_lock.specs.declared.view.View.{View}
use Rattle.turn_lock.specs.declared.view.Joined.{Joined}
use Rattle.turn_lock.specs.Histories.{BeginsWith, past, made_by}
use Rattle.turn_lock.specs.Views.{ticket_of, taken_of, drawn, served, given}

-- what a pass learns of the value as its turn begins
pub record Learns {E : Type 0} (v : View E) (log : List (ℕ × E)) (count : ℕ) : Type 0 where
  pub begins : BeginsWith log v.seen
  pub no_less : v.seen_faults ≤ count
  pub own : made_by v.number (past v.first log) ≡ v.made
  pub none_past : made_by v.number (past v.seen log) ≡ []

-- what a pass that was joined last made is all that pass 0 has seen of it past the first history, what both had seen is the beginning of what pass 0 has seen,
-- and neither had seen more faults
abbrev pub KeepsLast : {E : Type 0} → View E → List (Joined E) → Type 0
KeepsLast v [] = Unit {0}
KeepsLast v (j ∷ js) = BeginsWith v.seen j.kept_seen × BeginsWith v.seen j.other_seen × (made_by j.number (past v.first v.seen) ≡ j.made)
    × (j.kept_seen_faults ≤ v.seen_faults) × (j.other_seen_faults ≤ v.seen_faults)

module _ {B E : Type 0} (history : B → List (ℕ × E)) (faults : B → ℕ) (follows : Start → B → Type 0) where
  -- a look at the next ticket
  abbrev pub looked : Step (Option B) → Me (Option B) (View E) → ℕ → Me (Option B) (View E) → Type 0
  looked st m n m' = (m' ≡ m) × (n < 2 ^ 62)

  -- the ticket is drawn where it is still the next one
  abbrev pub drew : Step (Option B) → Me (Option B) (View E) → ℕ → Me (Option B) (View E) → Type 0
  drew st m n m' = (n ≡ st.first → m' ≡ (drawn m.0 n, m.1)) × (n ≢ st.first → (m' ≡ m) × (n < 2 ^ 62))

  -- where the pass finds its own ticket, the slot is in its hand, with the value as it was left
  abbrev pub came : Step (Option B) → Me (Option B) (View E) → ℕ → Me (Option B) (View E) → Type 0
  came st m n m' = (n ≡ ticket_of m.0.turn → (b : B) × (m' ≡ (served m.0 n (history b) (faults b), (0, Some b) ∷ m.1)) × Learns m.0 (history b) (faults b) × follows m.0.start b)
      × (n ≢ ticket_of m.0.turn → m' ≡ m)

  -- the slot goes home with what was put in, and the pass has seen all of it. Past the first history, what it made is all that the history has of it
  abbrev pub raised : Step (Option B) → Me (Option B) (View E) → ℕ → Me (Option B) (View E) → Type 0
  raised st m n m' = (b : B) × (m.1 ≡ (0, Some b) ∷ []) × (m' ≡ (given m.0 (history b) (faults b), []))
      × (made_by m.0.number (past m.0.first (history b)) ≡ m.0.made ++ past (taken_of m.0.turn) (history b))

  -- pass 0 looks, after a join
  abbrev pub checked : Step (Option B) → Me (Option B) (View E) → ℕ → Me (Option B) (View E) → Type 0
  checked st m n m' = (m' ≡ m) × KeepsLast m.0 m.0.joined × (made_by m.0.number (past m.0.first m.0.seen) ≡ m.0.made)

  -- a bell is rung, which tells nothing
  abbrev pub rang : Step (Option B) → Me (Option B) (View E) → ℕ → Me (Option B) (View E) → Type 0
  rang st m n m' = m' ≡ m
