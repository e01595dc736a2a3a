-- What a build keeps: its values, its counts, and what was valued since the last publication.
use Rattle.std.specs.Prelude.{ℕ, pos, ◌≤◌, ◌≤ℤ◌, false, List, [], length, take, Option}
use Rattle.std.specs.Option.{option_map_or}
use Rattle.stock_nums.specs.declared.entry.Entry.{Entry}
use Rattle.stock_nums.specs.declared.entry.Worth.{Worth}
use Rattle.stock_nums.specs.declared.limits.TheConstants.{MAX_VALUE}
use Rattle.stock_nums.specs.declared.place.Place.{Place}
use Rattle.stock_model.specs.Entries.{entries_after}
use Rattle.stock_model.specs.Journals.{AreLegal}
use Rattle.stock_model.specs.LandedCost.{added}
use Rattle.stock_model.specs.PostingOrder.{posting_line}
use Rattle.stock_model.specs.declared.records.Record.{Record}
use Rattle.repost_laws.specs.Builds.{Suspects, IsBuilt, IsClean, AreAhead, AreFew, ValuedSince, IsSince}
use Rattle.repost_laws.specs.Valuations.{Found, worth_of, no_worth}

-- what was found at the place is worth from 0 to 3*10^17, or nothing was found
abbrev pub worth_at : Found → Place → Worth
worth_at found place = option_map_or worth_of (found place) no_worth

pub record IsWorthInRange (found : Found) (place : Place) : Type 0 where
  pub from_zero : pos 0 ≤ℤ (worth_at found place).value.0
  pub within : (worth_at found place).value.0 ≤ℤ pos MAX_VALUE

-- how many movements the records of a journal had when each was accepted
abbrev pub made : List Record → ℕ
made journal = length (entries_after [] journal)

-- in the count of turns since the last publication all suspects come after some place, or there was none yet, and there were ever
-- so many movements
pub record AreCounted (line : List Entry) (suspects : Suspects) (entries fetches turns : ℕ) : Type 0 where
  pub last : Option Place
  pub ahead : AreAhead line suspects last
  pub few : AreFew line suspects last entries fetches turns

-- the first n records were published when all was built, and what is found was found then or was valued since
pub record ArePublished (journal : List Record) (n : ℕ) (found : Found) (suspects : Suspects) (valued : ValuedSince)
    : Type 0 where
  pub within : n ≤ length journal
  pub published : Found
  pub clean : Suspects
  pub built : IsBuilt (added (take n journal)) (posting_line (take n journal)) published clean
  pub none_suspect : IsClean (posting_line (take n journal)) clean
  pub since : IsSince n published (posting_line journal) found suspects valued

-- the build is of this journal, of which the first n records were published last
pub record IsBuildOf (journal : List Record) (n : ℕ) (found : Found) (suspects : Suspects) (valued : ValuedSince)
    (fetches turns : ℕ) : Type 0 where
  pub legal : AreLegal journal
  pub built : IsBuilt (added journal) (posting_line journal) found suspects
  pub in_range : (place : Place) → IsWorthInRange found place
  pub counted : AreCounted (posting_line journal) suspects (made journal) fetches turns
  pub published : ArePublished journal n found suspects valued

-- nothing is suspect, or was valued
abbrev pub none_suspect : Suspects
none_suspect place = false

abbrev pub none_valued : ValuedSince
none_valued place = false
