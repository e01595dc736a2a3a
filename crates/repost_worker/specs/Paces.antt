-- How far a worker has come with a book, and what its turns come to: as many as were asked for count, also where one is refused,
-- and nothing is published that they did not revalue.
use Rattle.std.specs.Prelude.{ℕ, ◌≡◌, ◌⊎◌, ◌+◌, ◌*◌, ◌<◌, ◌≤◌, List, [], length, filter, Option, IfSome}
use Rattle.stock_model.specs.History.{records, accepted, covered}
use Rattle.stock_model.specs.PostingOrder.{posting_line}
use Rattle.stock_model.specs.declared.deeds.Deed.{Deed}
use Rattle.stock_keeper.specs.Calls.{KeeperState, first_state}
use Rattle.stock_keeper.specs.declared.fault.KeepFault.{KeepFault}
use Rattle.stock_keeper.specs.declared.fault.KeepFault.TheVariants.{Failed}
use Rattle.generation_book.specs.State.{BookState}
use Rattle.repost_laws.specs.Touched.{is_new}
use Rattle.repost_laws.specs.WholeBuilds.{made}
use Rattle.repost_build.specs.Readings.{target_of, turns_of}
use Rattle.repost_build.specs.declared.build.Build.{Build}
use Rattle.repost_worker.specs.declared.turn.TheConstants.{MAX_FETCHES}

-- the history of a book, what its keeper tells of its calls, how many records the worker has taken in, and how many turns it made
-- since it last published
pub record Pace : Type 0 where
  pub history : List Deed
  pub keeper : KeeperState
  pub known : ℕ
  pub turns : ℕ

-- of a build that works for a book
abbrev pub pace_of : BookState → Build → Pace
pace_of book build = record { history = book.history; keeper = book.keeper; known = target_of build; turns = turns_of build }

-- before anything was done, over a keeper that never fails
abbrev pub first_pace : Pace
first_pace = record { history = []; keeper = first_state; known = 0; turns = 0 }

-- how many movements the accepted records had when each was accepted, and how many of those after the first n ones are there
abbrev pub movements_of : List Deed → ℕ
movements_of history = made (records history)

abbrev pub movements_after : ℕ → List Deed → ℕ
movements_after n history = length (filter (is_new n) (posting_line (records history)))

-- the worker has taken in what is covered, and no more than was accepted; and since the last publication it made no more turns
-- than four times one for each movement that was ever made and one, and none where it has taken in no more than is covered
pub record IsInPace (pace : Pace) : Type 0 where
  pub none : pace.known ≡ covered pace.history → pace.turns ≡ 0
  pub covered : covered pace.history ≤ pace.known
  pub known : pace.known ≤ accepted pace.history
  pub few : pace.turns ≤ MAX_FETCHES * (movements_of pace.history + 1)

-- the worker has taken in what is covered and no more, and made no turn since that was published
pub record IsAtRest (pace : Pace) : Type 0 where
  pub known : pace.known ≡ covered pace.history
  pub turns : pace.turns ≡ 0

-- Nothing of it changed but perhaps the history, and what its keeper tells.
pub record IsSamePace (old new : Pace) : Type 0 where
  pub known : new.known ≡ old.known
  pub turns : new.turns ≡ old.turns

-- so many turns were asked for, and were made or brought all that there was to do
pub record WorksInPace (old : Pace) (turns : ℕ) (new : Pace) : Type 0 where
  -- two for each movement that was ever made and three more are always enough
  pub covers : 2 * movements_of old.history + 3 ≤ turns → covered new.history ≡ accepted new.history
  -- where records wait and none is published, each of the turns was made
  pub waits : covered old.history < accepted old.history → new.history ≡ old.history → new.turns ≡ old.turns + turns
  -- records that the worker had not taken in are published once they are, and each of their movements is valued
  pub fresh : old.known < covered new.history → movements_after old.known old.history + 2 ≤ turns
  -- what it had taken in stays
  pub keeps : old.known ≤ new.known

-- A turn was refused for this. Before it so many were made, fewer than were asked for where a number was given, and they stand.
pub record StopsInPace (fault : KeepFault) (old : Pace) (asked : Option ℕ) (new : Pace) : Type 0 where
  pub made : ℕ
  pub fewer : IfSome asked (λ turns. made < turns)
  pub works : WorksInPace old made new
  -- where none of them published, each of them counts
  pub counts : new.history ≡ old.history → new.turns ≡ old.turns + made
  -- a keeper fails at a publication alone: more had been taken in than is covered
  pub due : fault ≡ Failed → covered new.history < new.known
  -- and then each movement had been valued of the records that the worker had not taken in before
  pub valued : fault ≡ Failed → old.known < new.known → movements_after old.known old.history + 1 ≤ made
  -- so it is, where some of the turns published, of those that were taken in since
  pub since : fault ≡ Failed → (new.history ≡ old.history) ⊎ (movements_after (covered new.history) new.history + 1 ≤ new.turns)
