-- Histories: lists of events. Those of a lock have with each event the number of the pass that made it.
use Rattle.std.specs.Prelude.{◌≡◌, ℕ, List, take, drop, filter, length, ◌==◌}

module _ {A : Type 0} where
  -- the longer history begins with what was seen
  abbrev pub BeginsWith : List A → List A → Type 0
  BeginsWith longer seen = take (length seen) longer ≡ seen

  -- what comes in the longer history after what was seen
  abbrev pub past : List A → List A → List A
  past seen longer = drop (length seen) longer

-- the events that pass k made, in their order
abbrev pub made_by : {E : Type 0} → ℕ → List (ℕ × E) → List (ℕ × E)
made_by k events = filter (λ e. e.0 == k) events
