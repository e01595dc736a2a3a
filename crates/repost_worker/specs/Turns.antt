-- What one turn of the policy does to a book and a build.
use Rattle.std.specs.Prelude.{ℕ, ◌≡◌, ◌+◌, ◌<◌, ◌≤◌, Bool, ◌||◌, List, ◌∷◌, [], ◌++◌, length, take, drop, Contains, false, if◌then◌else◌}
use Rattle.stock_nums.specs.declared.entry.Entry.{Entry}
use Rattle.stock_nums.specs.declared.place.Place.{Place}
use Rattle.stock_model.specs.History.{records, accepted, covered}
use Rattle.stock_model.specs.PostingOrder.{posting_line}
use Rattle.stock_model.specs.declared.deeds.Deed.{Deed}
use Rattle.stock_model.specs.declared.deeds.Deed.TheVariants as deed
use Rattle.stock_model.specs.declared.records.Record.{Record}
use Rattle.repost_laws.specs.Builds.{Suspects, IsClean}
use Rattle.repost_laws.specs.Changes.{goes_with, both_lines, is_recharged}
use Rattle.repost_laws.specs.Touched.{is_touched_by}
use Rattle.repost_build.specs.Builds.{IsOf, IsTurned}
use Rattle.repost_build.specs.Readings.{found_in, suspects_in, valued_in, base_of, target_of, fetches_of, turns_of, IsUnchanged}
use Rattle.repost_build.specs.declared.build.Build.{Build}
use Rattle.repost_worker.specs.declared.turn.Turned.{Turned}
use Rattle.repost_worker.specs.declared.turn.Turned.TheVariants.{Valued, Fetched, Published, Idle}
use Rattle.repost_worker.specs.declared.turn.TheConstants.{MAX_FETCHES}

-- the records that the build is of: the first ones of the history
abbrev pub records_of : List Deed → Build → List Record
records_of history build = take (target_of build) (records history)

-- the build is of the first records of the book, and counts from its last publication
pub record IsWorkOf (history : List Deed) (build : Build) : Type 0 where
  pub of : IsOf (records_of history build) build
  pub within : target_of build ≤ accepted history
  pub base : base_of build ≡ covered history
  pub fetches : fetches_of build ≤ MAX_FETCHES

-- no movement of the build is suspect
abbrev pub IsCleanOf : List Deed → Build → Type 0
IsCleanOf history build = IsClean (posting_line (records_of history build)) (suspects_in build)

-- how many movements of the line there are from the first suspect on
abbrev pub ahead_in : Suspects → List Entry → ℕ
ahead_in suspects [] = 0
ahead_in suspects (e ∷ es) = if suspects e.place then length es + 1 else ahead_in suspects es

-- records wait that the next turn may fetch
abbrev pub CanFetch : List Deed → Build → Type 0
CanFetch history build = (target_of build < accepted history) × (fetches_of build < MAX_FETCHES)

-- the next turn publishes: no movement is suspect, no records may be fetched, and the build is of more than is covered
abbrev pub CanPublish : List Deed → Build → Type 0
CanPublish history build = IsCleanOf history build × (CanFetch history build → ⊥) × (covered history < target_of build)

-- what comes and goes with the records after the first n ones touches the movement
abbrev pub is_touched_since : List Record → ℕ → Entry → Bool
is_touched_since all n e =
    is_touched_by n (goes_with (take n all) (drop n all)) (is_recharged (take n all) (drop n all)) (both_lines (take n all) (drop n all)) e

-- the build has taken in all records, what they bring and take back, and of its movements what both touch is suspect beside what was
pub record IsFetched (history : List Deed) (old new : Build) : Type 0 where
  pub target : target_of new ≡ accepted history
  pub touched : (e : Entry) → Contains (posting_line (records history)) e → suspects_in new e.place
      ≡ (suspects_in old e.place || is_touched_since (records history) (target_of old) e)
  pub found : (e : Entry) → Contains (posting_line (records history)) e → found_in new e.place ≡ found_in old e.place
  pub valued : (e : Entry) → Contains (posting_line (records history)) e → valued_in new e.place ≡ valued_in old e.place
  pub base : base_of new ≡ base_of old
  pub fetches : fetches_of new ≡ fetches_of old + 1
  pub turns : turns_of new ≡ turns_of old + 1

-- the build counts anew from what it is of, and what was found stays
pub record IsPublished (old new : Build) : Type 0 where
  pub base : base_of new ≡ target_of old
  pub target : target_of new ≡ target_of old
  pub fetches : fetches_of new ≡ 0
  pub turns : turns_of new ≡ 0
  pub found : (place : Place) → found_in new place ≡ found_in old place
  pub suspects : (place : Place) → suspects_in new place ≡ suspects_in old place
  pub valued : (place : Place) → valued_in new place ≡ false

-- the turn does this, as it is the first that there is to do, and what it does leads from the first book and build to the second
abbrev pub IsTurnTo : List Deed → Build → Turned → List Deed → Build → Type 0
IsTurnTo history build (Valued place) history' build' =
    (history' ≡ history) × IsTurned (records_of history build) build build' place
IsTurnTo history build (Fetched n) history' build' =
    IsCleanOf history build × CanFetch history build × (n.0 ≡ accepted history) × (history' ≡ history)
    × IsFetched history build build'
IsTurnTo history build (Published n) history' build' =
    IsCleanOf history build × (CanFetch history build → ⊥) × (covered history < target_of build) × (n.0 ≡ target_of build)
    × (history' ≡ history ++ deed.Published n ∷ []) × IsPublished build build'
IsTurnTo history build Idle history' build' =
    IsCleanOf history build × (covered history ≡ accepted history) × (history' ≡ history) × IsUnchanged build build'

-- what it published
abbrev pub publications : Turned → List Deed
publications (Valued place) = []
publications (Fetched n) = []
publications (Published n) = deed.Published n ∷ []
publications Idle = []

-- how many movements it valued
abbrev pub valuations : Turned → ℕ
valuations (Valued place) = 1
valuations (Fetched n) = 0
valuations (Published n) = 0
valuations Idle = 0
