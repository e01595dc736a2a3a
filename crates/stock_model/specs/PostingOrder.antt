-- All movements in posting order: each has effect at its moment, not when it was typed.
use Rattle.std.specs.Prelude.{List, [], ◌∷◌, fold, if◌then◌else◌}
use Rattle.stock_nums.specs.declared.entry.Entry.{Entry}
use Rattle.stock_nums.specs.Places.{is_before}
use Rattle.stock_model.specs.declared.records.Record.{Record}
use Rattle.stock_model.specs.Entries.{all_entries}

-- the movements with one more, put before the first that comes after it
abbrev pub put : List Entry → Entry → List Entry
put [] e = e ∷ []
put (f ∷ fs) e = if is_before e.place f.place then e ∷ f ∷ fs else f ∷ put fs e

-- the movements with these put among them
abbrev pub put_all : List Entry → List Entry → List Entry
put_all sorted es = fold put sorted es

-- the movements of a journal in posting order
unfoldable pub posting_line : List Record → List Entry
posting_line journal = put_all [] (all_entries journal)
