-- Movements of which some go, and among which others come.
use Rattle.std.specs.Prelude.{List, fold}
use Rattle.stock_nums.specs.declared.entry.Entry.{Entry}
use Rattle.stock_model.specs.PostingOrder.{put_all}
use Rattle.posting_order.specs.Timelines.{without}

-- the movements but the one where this one stands
abbrev pub without_one : List Entry → Entry → List Entry
without_one line e = without line e.place

-- the movements but those where these stand
abbrev pub line_without : List Entry → List Entry → List Entry
line_without line gone = fold without_one line gone

-- the line without those that go, and with those that come put among the others
abbrev pub changed_line : List Entry → List Entry → List Entry → List Entry
changed_line line adds gone = put_all (line_without line gone) adds
