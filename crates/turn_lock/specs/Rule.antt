-- The rule of the lock: what holds between any two steps, of the first two words, the slot and the views of all passes. Of the other
-- words, the bells on which passes wait, it says nothing. It has six parts.
--
-- 1. Tickets. Serving is the number of turns that all passes have ended, joined ones included. The passes with a ticket have different ones, all from serving
--    to below the next ticket, and there are as many as lie between. A pass has ended at most 2^57 turns, and fewer while it has a ticket, and there are at most
--    17 passes: so both words stay below 2^62.
-- 2. What was seen. What each pass has seen is the beginning of what one of them has seen, which is the history of the value as the last turn left it. A longer
--    one has no lesser count of faults, and none has a greater count than the value.
-- 3. The value. A value at home in the slot has just that history and that count of faults.
-- 4. The hand. A served pass has the ticket that is served, and took the value with that history and that count. The slot is empty only while a pass is served.
-- 5. Who made what. Of the events past the first history, those whose maker is k are what pass k made. Passes that were not made yet have none, and what joined
--    passes made is kept by pass 0. The histories that two passes had seen before they were joined are beginnings of what pass 0 has seen.
-- 6. Faults. The rises of the count in the turns of all passes, joined ones included, add up to the count of the value less the count at first.
--
-- One fact more is needed, so that each pass knows its own events before it is served: no event of a pass lies past what it has seen itself. The same goes for
-- what joined passes made and what pass 0 has seen. So where pass 0 alone publishes, nothing was published past what it has seen.
use Rattle.std.specs.Prelude.{◌≡◌, ◌≢◌, ℕ, ◌+◌, ◌*◌, ◌^◌, ◌<◌, ◌≤◌, List, [], ◌∷◌, length, sum_by, All, Option, Some}
use mathlib.Core.Option.{some}
use mathlib.Core.Option as maybe
use lib.ListN.{get_elem?}
use Rattle.atomic_table.specs.Table.{State}
use Rattle.turn_lock.specs.declared.view.Start.{Start}
use Rattle.turn_lock.specs.declared.view.View.{View}
use Rattle.turn_lock.specs.declared.view.Turn.{Turn}
use Rattle.turn_lock.specs.declared.view.Turn.TheVariants.{Rest, Drawn, Served}
use Rattle.turn_lock.specs.Histories.{BeginsWith, past, made_by}
use Rattle.turn_lock.specs.Views.{HasTicket, IsServed, tickets, all_turns, all_faults, joined_made, spent}

-- a ticket lies from the one that is served to below the next. A served pass has the one that is served, and what it took has the value's history and count of faults
abbrev pub InTurn : {E : Type 0} → List (ℕ × E) → ℕ → ℕ → ℕ → Turn E → Type 0
InTurn log count ticket serving Rest = Unit {0}
InTurn log count ticket serving (Drawn t) = (serving ≤ t) × (t < ticket)
InTurn log count ticket serving (Served t taken taken_count) = (t ≡ serving) × (t < ticket) × (taken ≡ log) × (taken_count ≡ count)

-- what holds of a pass in the seat j, where the value has the history log and this count of faults
pub record FitsPass {E : Type 0} (first : List (ℕ × E)) (first_faults : ℕ) (noted : Start) (log : List (ℕ × E)) (count ticket serving j : ℕ) (v : View E) : Type 0 where
  pub numbered : v.number ≡ j
  pub began : v.first ≡ first
  pub began_faults : v.first_faults ≡ first_faults
  pub began_start : v.start ≡ noted
  -- 1 and 4
  pub few_turns : length v.stops + tickets v.turn ≤ 2 ^ 57
  pub few_joined : sum_by (λ k. k.gives) v.joined ≤ length v.joined * 2 ^ 57
  pub in_turn : InTurn log count ticket serving v.turn
  -- 2
  pub from_first : BeginsWith v.seen first
  pub has_seen : BeginsWith log v.seen
  pub no_more : v.seen_faults ≤ count
  -- 5, and that no event of the pass lies past what it has seen
  pub own : made_by j (past first v.seen) ≡ v.made
  pub none_past : made_by j (past v.seen log) ≡ []
  pub counts : v.passes ≡ 1 + length v.joined
  pub only_zero : j ≢ 0 → (v.joined ≡ []) × (v.split ≡ 0)

-- what holds of pass 0 beyond that: it is never spent, and keeps what joined passes made
pub record FitsZero {E : Type 0} (log : List (ℕ × E)) (views : List (View E)) (v : View E) : Type 0 where
  pub lives : 0 < v.passes
  pub split_off : v.split + 1 ≡ length views
  pub saw_both : All (λ k. BeginsWith v.seen k.kept_seen × BeginsWith v.seen k.other_seen) v.joined
  pub counted_both : All (λ k. (k.kept_seen_faults ≤ v.seen_faults) × (k.other_seen_faults ≤ v.seen_faults)) v.joined
  pub are_spent : All (λ k. (u : View E) × (get_elem? views k.number ≡ some u) × (u.passes ≡ 0)) v.joined
  pub keeps_made : (k : ℕ) (u : View E) → get_elem? views k ≡ some u → u.passes ≡ 0 → (made_by k (past v.first v.seen) ≡ joined_made k v.joined) × (made_by k (past v.seen log) ≡ [])
  pub keeps_others : (k : ℕ) → length views ≤ k → joined_made k v.joined ≡ []

module _ {B E : Type 0} (history : B → List (ℕ × E)) (faults : B → ℕ) (start : B → Start) (follows : Start → B → Type 0) (first : B) where
  -- log and count are the history and the count of faults of the value, as the last turn that ended left it
  pub record TakesTurns (s : State (Option B) (View E)) : Type 0 where
    pub log : List (ℕ × E)
    pub count : ℕ
    pub ticket : ℕ
    pub serving : ℕ
    pub bells : List ℕ
    pub home : maybe.Option (Option B)
    pub words : s.words ≡ ticket ∷ serving ∷ bells
    pub slot : s.homes ≡ home ∷ []
    -- of each pass
    pub fits : (j : ℕ) (v : View E) → get_elem? s.views j ≡ some v → 0 < v.passes → FitsPass (history first) (faults first) (start first) log count ticket serving j v
    pub joined_is_spent : (j : ℕ) (v : View E) → get_elem? s.views j ≡ some v → v.passes ≡ 0 → v ≡ spent
    pub zero_fits : (v : View E) → get_elem? s.views 0 ≡ some v → FitsZero log s.views v
    pub all_passes_are : sum_by (λ v. v.passes) s.views ≡ length s.views
    -- 1
    pub few : length s.views ≤ 17
    pub apart : (i j : ℕ) (u v : View E) (t : ℕ) → get_elem? s.views i ≡ some u → get_elem? s.views j ≡ some v → HasTicket u.turn t → HasTicket v.turn t → i ≡ j
    pub all_turns_are : sum_by all_turns s.views ≡ serving
    pub all_tickets_are : serving + sum_by (λ v. tickets v.turn) s.views ≡ ticket
    -- 2
    pub latest : (j : ℕ) × (v : View E) × (get_elem? s.views j ≡ some v) × (0 < v.passes) × (v.seen ≡ log) × (v.seen_faults ≡ count)
    pub later : (i j : ℕ) (u v : View E) → get_elem? s.views i ≡ some u → get_elem? s.views j ≡ some v → 0 < u.passes → 0 < v.passes → length u.seen < length v.seen → u.seen_faults ≤ v.seen_faults
    -- 3 and 4
    pub at_home : ((j : ℕ) (v : View E) → get_elem? s.views j ≡ some v → ¬ IsServed v.turn) → (b : B) × (home ≡ some (Some b)) × (history b ≡ log) × (faults b ≡ count) × follows (start first) b
    -- 5
    pub none_unmade : (k : ℕ) → length s.views ≤ k → made_by k (past (history first) log) ≡ []
    -- 6
    pub all_faults_are : faults first + sum_by all_faults s.views ≡ count
