-- How a book is kept: its history is told by its events and its journal.
use Rattle.std.specs.Prelude.{ℕ, ◌≡◌, ◌+◌, ◌≤◌, List, [], ◌∷◌, length, take}
use Rattle.stock_nums.specs.declared.entry.Entry.{Entry}
use Rattle.stock_nums.specs.declared.entry.Row.{Row}
use Rattle.stock_model.specs.declared.records.Record.{Record}
use Rattle.stock_model.specs.declared.deeds.Deed.{Deed}
use Rattle.stock_model.specs.declared.deeds.Deed.TheVariants as deed
use Rattle.stock_model.specs.Bounds.{AreBounded}
use Rattle.stock_model.specs.Enough.{IsEnough}
use Rattle.stock_nums.specs.declared.limits.TheConstants.{MAX_ENTRIES}
use Rattle.stock_model.specs.PostingOrder.{posting_line}
use Rattle.stock_model.specs.Replay.{replay}
use Rattle.stock_model.specs.History as history
use Rattle.generation_book.specs.declared.events.Event.{Event}
use Rattle.generation_book.specs.declared.events.Event.TheVariants.{Kept, Published}

-- the history that the events tell, each kept event with the next record of the journal
abbrev pub deeds : List Event → List Record → List Deed
deeds [] journal = []
deeds (Kept ∷ events) [] = []
deeds (Kept ∷ events) (item ∷ journal) = deed.Kept item ∷ deeds events journal
deeds (Published n ∷ events) journal = deed.Published n ∷ deeds events journal

-- how many records the events keep
abbrev pub kept_count : List Event → ℕ
kept_count [] = 0
kept_count (Kept ∷ events) = kept_count events + 1
kept_count (Published n ∷ events) = kept_count events

-- what holds of the parts of a book
pub record IsBook (events : List Event) (journal : List Record) (line : List Entry) (covered : ℕ) (rows : List Row) : Type 0 where
  -- the events keep exactly the records of the journal
  pub counted : kept_count events ≡ length journal
  -- the movements stand in posting order, are few enough, and take no more than there is
  pub posted : line ≡ posting_line journal
  pub few : length line ≤ MAX_ENTRIES
  pub enough : IsEnough line
  -- the generation is the replay of the covered records
  pub covers : covered ≡ history.covered (deeds events journal)
  pub within : covered ≤ length journal
  pub valued : rows ≡ replay (take covered journal)
  pub bounded : AreBounded rows
  pub legal : history.IsLegal (deeds events journal)
