-- What was fetched of a journal.
use Rattle.std.specs.Prelude.{ℕ, ◌≡◌, Bool, ◌&&◌, if◌then◌else◌, List, [], ◌++◌, length, take, filter}
use Rattle.std.specs.List.{flat_map, enumerate_from}
use Rattle.stock_nums.specs.declared.cause.Target.{Target}
use Rattle.stock_nums.specs.declared.entry.Entry.{Entry}
use Rattle.stock_model.specs.Entries.{entries_after, is_live}
use Rattle.stock_model.specs.LandedCost.{record_charged}
use Rattle.stock_model.specs.declared.records.Record.{Record}
use Rattle.cost_links.specs.Charged.{charge_pairs}
use Rattle.repost_fetch.specs.declared.fetch.Fetched.{Fetched}
use Rattle.repost_laws.specs.Changes.{goes_with, coming}
use Rattle.repost_laws.specs.Fetches.{charges_after}
use Rattle.repost_laws.specs.Touched.{is_gone}

-- the record was in force in the journal, or is a further one, and is in force no more
abbrev pub is_taken : List Record → List Record → ℕ → Bool
is_taken journal more k = is_live journal k && goes_with journal more k

-- the movements that go: those of records of the journal that further ones take back, in the order of the records
abbrev pub going : List Record → List Record → List Entry
going journal more = filter (is_gone (is_taken journal more)) (entries_after [] journal)

-- what the record with this number charges, where it is taken back, each line weighed by the records up to it
abbrev pub taken_charge : (ℕ → Bool) → List Record → ℕ × Record → List (Target × ℕ)
taken_charge taken journal (k, item) = if taken k then record_charged (take k journal) item else []

-- what those of all records charge that are taken back, record by record
abbrev pub uncharged_after : List Record → List Record → List (Target × ℕ)
uncharged_after journal more = flat_map (taken_charge (is_taken journal more) (journal ++ more)) (enumerate_from 1 (journal ++ more))

-- it is what these further records bring: how many records there were and are, the movements of these that are in force, in
-- their order, each read in the journal before it, and their charges, with lines weighed by all of the records. And it is what
-- they take back: the movements that go, and the charges of all records that do
pub record IsFetchedOf (journal more : List Record) (fetched : Fetched) : Type 0 where
  pub after : fetched.after.0 ≡ length journal
  pub upto : fetched.upto.0 ≡ length (journal ++ more)
  pub entries : fetched.entries ≡ coming journal more
  pub charges : charge_pairs fetched.charges ≡ charges_after journal more
  pub gone : fetched.gone ≡ going journal more
  pub uncharged : charge_pairs fetched.uncharged ≡ uncharged_after journal more
