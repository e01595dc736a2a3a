-- A worker's run over a book that threads share: one turn after another, as long as a gate lets it go on.
use Rattle.std.specs.Prelude.{ℕ, ◌≡◌, ◌^◌, ◌<◌, List, [], ◌∷◌, ◌++◌, length, map, Option, Result, Ok, Err}
use Rattle.std.specs.Option.{option_map}
use Rattle.stock_model.specs.PostingOrder.{posting_line}
use Rattle.stock_model.specs.declared.deeds.Deed.{Deed}
use Rattle.stock_keeper.specs.declared.fault.KeepFault.{KeepFault}
use Rattle.turn_lock.specs.declared.view.View.{View}
use Rattle.session_laws.specs.Makers.{without_makers}
use Rattle.repost_laws.specs.WholeBuilds.{made}
use Rattle.repost_build.specs.Readings.{suspects_in, IsUnchanged}
use Rattle.repost_build.specs.declared.build.Build.{Build}
use Rattle.locked_worker.specs.LockedTurns.{IsLockedTurn, IsRefusedTurn}
use Rattle.repost_worker.specs.Turns.{records_of, ahead_in, valuations}
use Rattle.locked_worker.specs.declared.gate.Go.{Go}
use Rattle.locked_worker.specs.declared.gate.Go.TheVariants.{Work}
use Rattle.repost_worker.specs.declared.turn.Turned.{Turned}
use Rattle.repost_worker.specs.declared.turn.Turned.TheVariants.{Valued, Fetched, Published, Idle}

-- one turn under the lock, which came to this, or was refused so
abbrev pub IsTurnWith : View Deed → Build → Result Turned KeepFault → View Deed → Build → Type 0
IsTurnWith old build (Ok turned) new build' = IsLockedTurn old build turned new build'
IsTurnWith old build (Err fault) new build' = IsRefusedTurn fault old new × IsUnchanged build build'

-- turns with these results lead, one after another, from the first view and build to the second. Each is of a pass that may take one
abbrev pub AreTurnsWith : List (Result Turned KeepFault) → View Deed → Build → View Deed → Build → Type 0
AreTurnsWith [] old build new build' = (new ≡ old) × (build' ≡ build)
AreTurnsWith (result ∷ results) old build new build' =
    (length old.stops < 2 ^ 57)
    × ((mid : View Deed) × (then : Build) × IsTurnWith old build result mid then × AreTurnsWith results mid then new build')

-- how many movements it valued
abbrev pub valuations_with : Result Turned KeepFault → ℕ
valuations_with (Ok turned) = valuations turned
valuations_with (Err fault) = 0

-- one where the turn did something, and none where it was idle or refused
abbrev pub turns_with : Result Turned KeepFault → ℕ
turns_with (Ok (Valued place)) = 1
turns_with (Ok (Fetched n)) = 1
turns_with (Ok (Published n)) = 1
turns_with (Ok Idle) = 0
turns_with (Err fault) = 0

-- the turn published nothing
abbrev pub PublishesNothing : Result Turned KeepFault → Type 0
PublishesNothing (Ok (Valued place)) = Unit {0}
PublishesNothing (Ok (Fetched n)) = Unit {0}
PublishesNothing (Ok (Published n)) = ⊥
PublishesNothing (Ok Idle) = Unit {0}
PublishesNothing (Err fault) = Unit {0}

-- it neither published nor fetched
abbrev pub StaysWithBuild : Result Turned KeepFault → Type 0
StaysWithBuild (Ok (Valued place)) = Unit {0}
StaysWithBuild (Ok (Fetched n)) = ⊥
StaysWithBuild (Ok (Published n)) = ⊥
StaysWithBuild (Ok Idle) = Unit {0}
StaysWithBuild (Err fault) = Unit {0}

-- how many movements the records ever made that the build is of, and how many of those there are from the first suspect on
abbrev pub movements_in : View Deed → Build → ℕ
movements_in view build = made (records_of (without_makers view.seen) build)

abbrev pub movements_ahead : View Deed → Build → ℕ
movements_ahead view build = ahead_in (suspects_in build) (posting_line (records_of (without_makers view.seen) build))

-- what a gate was given and what it answered
abbrev pub Answers : Type 0
Answers = List (Result Turned KeepFault × Go)

-- it was given these results, and each time said to go on
abbrev pub goes_on : List (Result Turned KeepFault) → Answers
goes_on results = map (λ result. (result, Work)) results

-- these answers came, where the gate tells them
abbrev pub Answered : Answers → Option Answers → Option Answers → Type 0
Answered more old new = new ≡ option_map (λ answers. answers ++ more) old
