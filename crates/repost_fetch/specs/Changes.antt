-- What a publication puts in place of what was published before.
use Rattle.std.specs.Prelude.{ℕ, ◌≡◌, Bool, List, filter, map, take, drop}
use Rattle.std.specs.List.Sorted.{IsPermutation}
use Rattle.stock_nums.specs.declared.entry.Entry.{Entry}
use Rattle.stock_nums.specs.declared.entry.Row.{Row}
use Rattle.stock_nums.specs.declared.place.Spot.{Spot}
use Rattle.stock_model.specs.PostingOrder.{posting_line}
use Rattle.stock_model.specs.Replay.{replay}
use Rattle.stock_model.specs.declared.records.Record.{Record}
use Rattle.repost_laws.specs.Builds.{ValuedSince, is_as_published, is_row_left}
use Rattle.repost_laws.specs.Changes.{goes_with}
use Rattle.repost_laws.specs.Touched.{is_gone}

-- the row is of a movement that was valued since
abbrev pub is_valued : ValuedSince → Row → Bool
is_valued valued row = valued row.entry.place

-- the record was not in force, or is so no more, with the journal's records after the first n ones
abbrev pub goes_since : ℕ → List Record → ℕ → Bool
goes_since n journal = goes_with (take n journal) (drop n journal)

-- where a movement stands among those of its record
abbrev pub spot_of_entry : Entry → Spot
spot_of_entry e = record { voucher = e.place.voucher; line = e.place.line; side = e.place.side }

-- the spots of the first n records' movements that go with the others
abbrev pub gone_spots : ℕ → List Record → List Spot
gone_spots n journal = map spot_of_entry (filter (is_gone (goes_since n journal)) (posting_line (take n journal)))

-- of the journal's replay these rows are those at some places, in posting order, and all its other rows are those of the replay
-- of the first n records at other places, but for those that go. These are the spots of those that go, each once
pub record AreChanges (journal : List Record) (n : ℕ) (changed : List Row) (spots : List Spot) : Type 0 where
  pub valued : ValuedSince
  pub rows : changed ≡ filter (is_valued valued) (replay journal)
  pub others : filter (is_as_published valued) (replay journal)
      ≡ filter (is_as_published valued) (filter (is_row_left (goes_since n journal)) (replay (take n journal)))
  pub gone : IsPermutation spots (gone_spots n journal)
