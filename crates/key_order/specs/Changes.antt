-- What is held of each item in each warehouse, by the changes that movements make of it. In every list here the changes of one
-- item in one warehouse stand in posting order.
use Rattle.std.specs.Prelude.{ℕ, ℤ, pos, ◌+ℤ◌, int_lt, Bool, true, false, ◌&&◌, not, List, length, filter, map, reverse, unsigned_abs, Option, Some, None}
use Rattle.std.specs.List.{find}
use Rattle.std.specs.Option.{option_map}
use Rattle.block_list.specs.Sums.{total}
use Rattle.stock_nums.specs.Causes.{is_entering}
use Rattle.stock_nums.specs.Places.{is_before}
use Rattle.stock_nums.specs.declared.entry.Entry.{Entry}
use Rattle.stock_nums.specs.declared.entry.Key.{Key}
use Rattle.stock_nums.specs.declared.place.Place.{Place}
use Rattle.stock_model.specs.Enough.{entry_key, is_same_key}
use Rattle.key_order.specs.Units.{signed_units, signed_units-IsSignedQuantity}
use Rattle.key_order.specs.declared.change.Change.{Change}
use Rattle.key_order.specs.declared.change.Lack.{Lack}

-- the change at a movement's place by its quantity, more or fewer
abbrev pub signed_change : Bool → Entry → Change
signed_change more e =
    record {
      key = entry_key e;
      place = e.place;
      units = signed_units more e.qty.0;
      quantity = signed_units-IsSignedQuantity more e.qty.0 e.quantity;
    }

-- what a movement changes
abbrev pub change_of : Entry → Change
change_of e = signed_change (is_entering e.place.side) e

-- what a movement would change if its units left
abbrev pub leaving_change : Entry → Change
leaving_change e = signed_change false e

-- what movements change, in their order
abbrev pub changes_of : List Entry → List Change
changes_of es = map change_of es

-- how many units more are held with a change
abbrev pub change_units : Change → ℤ
change_units c = c.units

-- the changes of an item in a warehouse
abbrev pub of_key : Key → List Change → List Change
of_key key cs = filter (λ c. is_same_key c.key key) cs

-- where a change stands
abbrev pub change_place : Change → Place
change_place c = c.place

-- the place comes after the start, if there is one
abbrev pub is_after_start : Option Place → Place → Bool
is_after_start None place = true
is_after_start (Some start) place = is_before start place

-- the place comes before the end, if there is one
abbrev pub is_before_end : Option Place → Place → Bool
is_before_end None place = true
is_before_end (Some end) place = is_before place end

-- the place of the first change of the key that comes after a start
abbrev pub next_change : List Change → Key → Option Place → Option Place
next_change cs key from = option_map change_place (find (λ c. is_after_start from c.place) (of_key key cs))

-- the place of the last change of the key that comes before the place
abbrev pub previous_change : List Change → Key → Place → Option Place
previous_change cs key place = option_map change_place (find (λ c. is_before c.place place) (reverse (of_key key cs)))

-- how many changes of the key come before the place
abbrev pub rank_of : List Change → Key → Place → ℕ
rank_of cs key place = length (filter (λ c. is_before c.place place) (of_key key cs))

-- how many units are held of the key just before the place
abbrev pub held_before : List Change → Key → Place → ℤ
held_before cs key place = total change_units (filter (λ c. is_before c.place place) (of_key key cs))

-- how many units are held of the key with what stands up to the place and at it
abbrev pub held_with : List Change → Key → Place → ℤ
held_with cs key place = total change_units (filter (λ c. not (is_before place c.place)) (of_key key cs))

-- the change comes after a start and before an end, and with it and some units more fewer than none are held
abbrev pub lacks_within : List Change → Key → Option Place → Option Place → ℤ → Change → Bool
lacks_within cs key from end more c =
    (is_after_start from c.place && is_before_end end c.place) && int_lt (more +ℤ held_with cs key c.place) (pos 0)

-- where the change stands, and how many units fewer than none are held with it and with some units more
abbrev pub lack_at : List Change → Key → ℤ → Change → Lack
lack_at cs key more c =
    record { place = c.place; lacking = record { 0 = unsigned_abs (more +ℤ held_with cs key c.place) } }

-- the first lack of the key after a start and before an end, where so many units more are held
abbrev pub first_lack : List Change → Key → Option Place → Option Place → ℤ → Option Lack
first_lack cs key from end more =
    option_map (lack_at cs key more) (find (lacks_within cs key from end more) (of_key key cs))
