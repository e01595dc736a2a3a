-- Of which journal a build is, and what a turn makes of it.
use Rattle.std.specs.Prelude.{◌≡◌, ◌+◌, ◌≤◌, List, length}
use Rattle.std.specs.List.Sorted.{IsPermutation}
use Rattle.stock_nums.specs.declared.cause.Target.{Target}
use Rattle.stock_nums.specs.declared.entry.Entry.{Entry}
use Rattle.stock_nums.specs.declared.place.Place.{Place}
use Rattle.stock_model.specs.LandedCost.{added}
use Rattle.stock_model.specs.PostingOrder.{posting_line}
use Rattle.stock_model.specs.declared.records.Record.{Record}
use Rattle.repost_fetch.specs.Changes.{gone_spots}
use Rattle.repost_laws.specs.Builds.{IsTurn, IsValuedAt}
use Rattle.repost_laws.specs.WholeBuilds.{IsBuildOf}
use Rattle.repost_spread.specs.Movements.{AreKept, line_of, charged_by}
use Rattle.repost_build.specs.Readings.{found_in, suspects_in, valued_in, base_of, target_of, fetches_of, turns_of, gone_of}
use Rattle.repost_build.specs.declared.build.Build.{Build}

-- the build is of these records: it has their movements and charges, each fetch brought at least one record, the spots that it
-- keeps are those of the movements that were published last and go, each once, and each movement that is not suspect was found to
-- be what it is valued at
pub record IsOf (journal : List Record) (build : Build) : Type 0 where
  pub kept : AreKept build.movements
  pub line : line_of build.movements ≡ posting_line journal
  pub charged : (line : Target) → charged_by build.movements line ≡ added journal line
  pub target : target_of build ≡ length journal
  pub fetched : fetches_of build + base_of build ≤ target_of build
  pub gone : IsPermutation (gone_of build) (gone_spots (base_of build) journal)
  pub built : IsBuildOf journal (base_of build) (found_in build) (suspects_in build) (valued_in build) (fetches_of build)
      (turns_of build)

-- of these records the first suspect, which stands at the place, was valued and made suspect what it marks. All else stays,
-- and it was one turn more
pub record IsTurned (journal : List Record) (old new : Build) (place : Place) : Type 0 where
  pub entry : Entry
  pub at : entry.place ≡ place
  pub turn : IsTurn (added journal) (posting_line journal) (found_in old) (suspects_in old) entry (found_in new) (suspects_in new)
  pub valued : IsValuedAt (valued_in old) (valued_in new) place
  pub base : base_of new ≡ base_of old
  pub target : target_of new ≡ target_of old
  pub gone : gone_of new ≡ gone_of old
  pub fetches : fetches_of new ≡ fetches_of old
  pub turns : turns_of new ≡ turns_of old + 1
