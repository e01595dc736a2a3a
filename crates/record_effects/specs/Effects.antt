-- What a record does to the movements of a book, once it is accepted.
use Rattle.std.specs.Prelude.{Bool, not, List, [], ◌∷◌, ◌++◌, filter}
use Rattle.stock_nums.specs.declared.entry.Entry.{Entry}
use Rattle.stock_model.specs.declared.records.Record.{Record}
use Rattle.stock_model.specs.Entries.{is_live_entry, all_entries}

-- the movement is not in force once the record is there
abbrev pub is_taken_back : List Record → Record → Entry → Bool
is_taken_back journal item e = not (is_live_entry (journal ++ item ∷ []) e)

-- the movements in force that the record takes back, in the order of the records
abbrev pub gone_with : List Record → Record → List Entry
gone_with journal item = filter (is_taken_back journal item) (all_entries journal)
