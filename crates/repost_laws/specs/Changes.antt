-- What further records do to a journal: which movements come and which go, and which lines have another sum of charges.
use Rattle.std.specs.Prelude.{ℕ, Bool, ◌&&◌, ◌||◌, not, List, ◌++◌, length, filter, nat_lt}
use Rattle.std.specs.List.{enumerate_from, list_any}
use Rattle.stock_nums.specs.declared.cause.Target.{Target}
use Rattle.stock_nums.specs.declared.entry.Entry.{Entry}
use Rattle.stock_model.specs.Entries.{entries_after, is_live, is_live_entry}
use Rattle.stock_model.specs.PostingOrder.{put_all, posting_line}
use Rattle.stock_model.specs.declared.records.Record.{Record}
use Rattle.repost_laws.specs.Touched.{charges_to}

-- the record is not in force with the further ones
abbrev pub goes_with : List Record → List Record → ℕ → Bool
goes_with journal more k = not (is_live (journal ++ more) k)

-- the movements of the further records that are in force
abbrev pub coming : List Record → List Record → List Entry
coming journal more = filter (is_live_entry (journal ++ more)) (entries_after journal more)

-- all movements that were there or are there now
abbrev pub both_lines : List Record → List Record → List Entry
both_lines journal more = put_all (posting_line journal) (coming journal more)

-- the record names the line among those that it charges, and comes, or was in force and is so no more
abbrev pub recharges : ℕ → (ℕ → Bool) → (ℕ → Bool) → Target → ℕ × Record → Bool
recharges n live new_live line (k, item) = (nat_lt n k || (live k && not (new_live k))) && charges_to line item

abbrev pub is_recharged : List Record → List Record → Target → Bool
is_recharged journal more line =
    list_any (recharges (length journal) (is_live journal) (is_live (journal ++ more)) line) (enumerate_from 1 (journal ++ more))
