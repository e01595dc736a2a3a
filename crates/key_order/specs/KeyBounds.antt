-- Where bounds fall among changes by item and warehouse, and then in posting order.
use Rattle.std.specs.Prelude.{ℤ, ◌+ℤ◌, unsigned_abs, Bool, false, ◌&&◌, ◌||◌, not, Option, Some, None, if◌then◌else◌}
use Rattle.stock_nums.specs.Places.{is_before}
use Rattle.stock_nums.specs.declared.entry.Key.{Key}
use Rattle.stock_nums.specs.declared.place.Place.{Place}
use Rattle.stock_model.specs.Enough.{is_same_key}
use Rattle.stock_model.specs.Sheets.{is_key_before}
use Rattle.key_order.specs.Changes.{change_units}
use Rattle.key_order.specs.KeyOrders.{is_change_at}
use Rattle.key_order.specs.declared.change.Change.{Change}
use Rattle.key_order.specs.declared.change.Lack.{Lack}

-- the change is of a key before this one
abbrev pub is_before_key : Key → Change → Bool
is_before_key key c = is_key_before c.key key

-- the change is of this key or of one before it
abbrev pub is_up_to_key : Key → Change → Bool
is_up_to_key key c = is_key_before c.key key || is_same_key c.key key

-- the change is of a key before this one, or of this one and comes before the place
abbrev pub is_before_place : Key → Place → Change → Bool
is_before_place key place c = is_key_before c.key key || (is_same_key c.key key && is_before c.place place)

-- the change is of a key before this one, or of this one and does not come after the place
abbrev pub is_up_to_place : Key → Place → Change → Bool
is_up_to_place key place c = is_key_before c.key key || (is_same_key c.key key && not (is_before place c.place))

-- the change is of a key before this one, or of this one and does not come after the start, if there is one
abbrev pub is_up_to_start_of : Key → Option Place → Change → Bool
is_up_to_start_of key None c = is_before_key key c
is_up_to_start_of key (Some start) c = is_up_to_place key start c

-- the change is before the end of the key, or before a place of it
abbrev pub is_before_end_of : Key → Option Place → Change → Bool
is_before_end_of key None c = is_up_to_key key c
is_before_end_of key (Some end) c = is_before_place key end c

-- the place of a change, if it is of the key
abbrev pub place_of_key : Key → Option Change → Option Place
place_of_key key None = None
place_of_key key (Some c) = if is_same_key c.key key then Some c.place else None

-- there is a change, it is of the key and it stands at the place
abbrev pub is_some_at : Key → Place → Option Change → Bool
is_some_at key place None = false
is_some_at key place (Some c) = is_change_at key place c

-- the lack at a change, where so many units are held before it
abbrev pub lack_with : ℤ → Change → Lack
lack_with before c =
    record { place = c.place; lacking = record { 0 = unsigned_abs (before +ℤ change_units c) } }
