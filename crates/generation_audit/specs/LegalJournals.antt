-- Records that were read, and their movements in posting order.
use Rattle.std.specs.Prelude.{◌≡◌, ◌≤◌, List, length}
use Rattle.stock_nums.specs.declared.entry.Entry.{Entry}
use Rattle.stock_nums.specs.declared.limits.TheConstants.{MAX_ENTRIES}
use Rattle.stock_model.specs.Journals.{AreLegal}
use Rattle.stock_model.specs.PostingOrder.{posting_line}
use Rattle.stock_model.specs.declared.records.Record.{Record}

-- no record has a fault at its place, and these are the movements in posting order, of which there are few enough
pub record IsLegalJournal (journal : List Record) (line : List Entry) : Type 0 where
  pub legal : AreLegal journal
  pub posted : line ≡ posting_line journal
  pub few : length line ≤ MAX_ENTRIES
