-- The passes of desks: each is split off pass 0 before the desks begin, and joined into it once they have ended.
use Rattle.std.specs.Prelude.{ℕ, zero, suc, ◌≡◌, ◌+◌, List, [], ◌∷◌, ◌++◌, length}
use Rattle.atomic_table.specs.Seated.{TableId}
use Rattle.turn_lock.specs.Passes.{PassView}
use Rattle.turn_lock.specs.Views.{opened, joined_view}
use Rattle.turn_lock.specs.declared.view.View.{View}

module _ {E : Type 0} where
  -- what the pass with this number knows as it is split off one that knows so much
  abbrev pub fresh : View E → ℕ → View E
  fresh known number =
      record (opened known.first known.first_faults known.start) { number = number; seen = known.seen; seen_faults = known.seen_faults }

  -- so many such passes, numbered on from this number, the first of them last
  abbrev pub passes_from : TableId → View E → ℕ → ℕ → List (PassView E)
  passes_from lock known number zero = []
  passes_from lock known number (suc count) =
      passes_from lock known (number + 1) count ++ record { lock = lock; view = fresh known number } ∷ []

  -- these are such passes
  abbrev pub ArePassesFrom : TableId → ℕ → List (PassView E) → Type 0
  ArePassesFrom lock number passes = (known : View E) × (passes ≡ passes_from lock known number (length passes))

  -- what a pass knows once all these were joined into it, the last of them first
  abbrev pub joined_all : View E → List (PassView E) → View E
  joined_all view [] = view
  joined_all view (pass ∷ passes) = joined_view (joined_all view passes) pass.view
