-- A build as contracts see it: its movements with what was found of each, and its counts.
use Rattle.std.specs.Prelude.{ℕ, ◌≡◌, List}
use Rattle.stock_nums.specs.declared.cause.Target.{Target}
use Rattle.stock_nums.specs.declared.place.Spot.{Spot}
use Rattle.repost_frontier.specs.Readings.{found_of, suspects_of, revalued_of}
use Rattle.repost_frontier.specs.declared.slot.Slot.{Slot}
use Rattle.repost_laws.specs.Builds.{Suspects, ValuedSince}
use Rattle.repost_laws.specs.Valuations.{Found}
use Rattle.repost_spread.specs.Movements.{slots_of, charged_by}
use Rattle.repost_build.specs.declared.build.Build.{Build}

-- its movements in posting order, each with what was last found of it
abbrev pub slots_in : Build → List Slot
slots_in build = slots_of build.movements

-- what was last found at each place, what is suspect there, and what was valued since the last publication
abbrev pub found_in : Build → Found
found_in build = found_of (slots_in build)

abbrev pub suspects_in : Build → Suspects
suspects_in build = suspects_of (slots_in build)

abbrev pub valued_in : Build → ValuedSince
valued_in build = revalued_of (slots_in build)

-- how many records were published last, and of how many it is
abbrev pub base_of : Build → ℕ
base_of build = build.base.0

abbrev pub target_of : Build → ℕ
target_of build = build.target.0

-- how many fetches and how many turns it made since
abbrev pub fetches_of : Build → ℕ
fetches_of build = build.fetches

abbrev pub turns_of : Build → ℕ
turns_of build = build.turns

-- the spots of the movements that were published last and are there no more
abbrev pub gone_of : Build → List Spot
gone_of build = build.gone.items

-- nothing of it changed
pub record IsUnchanged (old new : Build) : Type 0 where
  pub slots : slots_in new ≡ slots_in old
  pub charged : (line : Target) → charged_by new.movements line ≡ charged_by old.movements line
  pub base : base_of new ≡ base_of old
  pub target : target_of new ≡ target_of old
  pub gone : gone_of new ≡ gone_of old
  pub fetches : fetches_of new ≡ fetches_of old
  pub turns : turns_of new ≡ turns_of old
