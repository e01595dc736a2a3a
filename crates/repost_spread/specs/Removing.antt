-- Movements that are taken out.
use Rattle.std.specs.Prelude.{List, fold}
use Rattle.stock_nums.specs.declared.entry.Entry.{Entry}
use Rattle.posting_order.specs.Timelines.{without}
use Rattle.repost_frontier.specs.Slots.{slots_without}
use Rattle.repost_frontier.specs.declared.slot.Slot.{Slot}

-- the movements, each with what was found of it, but the one at this one's place, and those at the places of these
abbrev pub slots_but : List Slot → Entry → List Slot
slots_but slots e = slots_without slots e.place

abbrev pub slots_but_all : List Slot → List Entry → List Slot
slots_but_all slots gone = fold slots_but slots gone

-- the same of movements alone
abbrev pub line_but : List Entry → Entry → List Entry
line_but line e = without line e.place

abbrev pub line_but_all : List Entry → List Entry → List Entry
line_but_all line gone = fold line_but line gone
