-- Changes of movements that enter, and of those that leave.
use Rattle.std.specs.Prelude.{List, if◌then◌else◌}
use Rattle.stock_nums.specs.Causes.{is_entering}
use Rattle.stock_nums.specs.declared.entry.Entry.{Entry}
use Rattle.stock_model.specs.Enough.{entry_key}
use Rattle.key_order.specs.Changes.{leaving_change}
use Rattle.key_order.specs.KeyOrders.{put_change, without_change}
use Rattle.key_order.specs.declared.change.Change.{Change}
use Rattle.layer_ranges.specs.RangesState.{RangesState}

-- the changes of the movement's side
abbrev pub changes_beside : RangesState → Entry → List Change
changes_beside state e = if is_entering e.place.side then state.entering else state.leaving

-- the changes of entering movements, with the movement if it enters
abbrev pub put_entering : List Change → Entry → List Change
put_entering cs e = if is_entering e.place.side then put_change cs (leaving_change e) else cs

-- the changes of leaving movements, with the movement if it leaves
abbrev pub put_leaving : List Change → Entry → List Change
put_leaving cs e = if is_entering e.place.side then cs else put_change cs (leaving_change e)

-- the changes of entering movements, without the one at the movement's place if it enters
abbrev pub without_entering : List Change → Entry → List Change
without_entering cs e = if is_entering e.place.side then without_change cs (entry_key e) e.place else cs

-- the changes of leaving movements, without the one at the movement's place if it leaves
abbrev pub without_leaving : List Change → Entry → List Change
without_leaving cs e = if is_entering e.place.side then cs else without_change cs (entry_key e) e.place
