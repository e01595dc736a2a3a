-- What turns one after another do to a book and a build.
use Rattle.std.specs.Prelude.{ℕ, ◌≡◌, ◌≢◌, ◌+◌, ◌<◌, ◌≤◌, ◌⊎◌, List, [], ◌∷◌, ◌++◌, length, sum_by, Contains, Option, Some, None, IfSome}
use Rattle.stock_model.specs.declared.deeds.Deed.{Deed}
use Rattle.stock_keeper.specs.declared.fault.KeepFault.{KeepFault}
use Rattle.repost_build.specs.Readings.{IsUnchanged}
use Rattle.repost_build.specs.declared.build.Build.{Build}
use Rattle.repost_worker.specs.Turns.{IsTurnTo, valuations}
use Rattle.repost_worker.specs.declared.turn.Turned.{Turned}
use Rattle.repost_worker.specs.declared.turn.Turned.TheVariants.{Idle}

-- these turns, one after another, lead from the first book and build to the second
abbrev pub AreTurnsTo : List Turned → List Deed → Build → List Deed → Build → Type 0
AreTurnsTo [] history build history' build' = (history' ≡ history) × (build' ≡ build)
AreTurnsTo (turned ∷ turns) history build history' build' =
    (mid : List Deed) × (then : Build) × IsTurnTo history build turned mid then × AreTurnsTo turns mid then history' build'

-- each of the turns did something
abbrev pub AreAtWork : List Turned → Type 0
AreAtWork turns = (turned : Turned) → Contains turns turned → turned ≢ Idle

-- there was nothing to do at the last turn, and each turn before it did something
pub record AreUntilIdle (turns : List Turned) : Type 0 where
  pub before : List Turned
  pub last : turns ≡ before ++ Idle ∷ []
  pub at_work : AreAtWork before

-- there are as many turns as the limit says, and each did something
pub record AreUntilLimit (limit : Option ℕ) (turns : List Turned) : Type 0 where
  pub full : limit ≡ Some (length turns)
  pub at_work : AreAtWork turns

-- each turn did something, and the limit would have let one more be made, which was refused
pub record AreUntilRefused (limit : Option ℕ) (turns : List Turned) : Type 0 where
  pub more : IfSome limit (λ n. length turns < n)
  pub at_work : AreAtWork turns

-- after these turns no more were made, for no refusal or for that of one more
abbrev pub AreAllUntil : Option KeepFault → Option ℕ → List Turned → Type 0
AreAllUntil None limit turns = AreUntilIdle turns ⊎ AreUntilLimit limit turns
AreAllUntil (Some refusal) limit turns = AreUntilRefused limit turns

-- turns were made, no more than the limit says, until one was idle, or as many were made as the limit says, or one was refused.
-- The refused one changed nothing
pub record IsRun (limit : Option ℕ) (stopped : Option KeepFault) (history : List Deed) (build : Build) (steps : ℕ)
    (history' : List Deed) (build' : Build) (steps' : ℕ) : Type 0 where
  pub turns : List Turned
  pub last : Build
  pub run : AreTurnsTo turns history build history' last
  pub rest : IsUnchanged last build'
  pub valued : steps' ≡ steps + sum_by valuations turns
  pub within : IfSome limit (λ n. length turns ≤ n)
  pub ended : AreAllUntil stopped limit turns
