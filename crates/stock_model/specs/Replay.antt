-- The chronological replay: every movement valued in posting order, from nothing.
use Rattle.std.specs.Prelude.{List, [], ◌∷◌, ◌++◌, fold}
use Rattle.stock_nums.specs.declared.entry.Entry.{Entry}
use Rattle.stock_nums.specs.declared.entry.Row.{Row}
use Rattle.stock_model.specs.declared.records.Record.{Record}
use Rattle.stock_model.specs.PostingOrder.{posting_line}
use Rattle.stock_model.specs.Values.{value_by, share_by}

-- the movement, valued from the rows before it and from what the journal charges
abbrev pub valued : List Record → List Row → Entry → Row
valued journal before e =
    record {
      entry = e;
      worth = record {
        value = record { 0 = value_by journal before e e.cause };
        share = record { 0 = share_by journal before e e.cause };
      };
    }

abbrev pub value_next : List Record → List Row → Entry → List Row
value_next journal before e = before ++ valued journal before e ∷ []

-- the movements, each valued from those before it
abbrev pub rows_of : List Record → List Entry → List Row
rows_of journal es = fold (value_next journal) [] es

unfoldable pub replay : List Record → List Row
replay journal = rows_of journal (posting_line journal)
