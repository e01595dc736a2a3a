-- The first shortage of a line that some movements come into and others go from, found along stretches: each goes from a movement
-- that comes or goes to the next such one of its item in its warehouse, and in it so many units more, or fewer, are held than before.
use Rattle.std.specs.Prelude.{ℤ, pos, ◌+ℤ◌, ◌-ℤ◌, int_lt, Bool, ◌&&◌, not, List, [], ◌∷◌, unsigned_abs, if◌then◌else◌, Option, Some, None}
use Rattle.std.specs.Option.{option_map}
use Rattle.stock_nums.specs.Places.{is_before}
use Rattle.stock_nums.specs.declared.entry.Entry.{Entry}
use Rattle.stock_nums.specs.declared.entry.Key.{Key}
use Rattle.stock_nums.specs.declared.place.Place.{Place}
use Rattle.stock_model.specs.Enough.{entry_key, is_of_key}
use Rattle.stock_model.specs.declared.shortages.Shortage.{Shortage}
use Rattle.key_order.specs.Changes.{change_of, changes_of, change_units, held_before, held_with, is_before_end, first_lack}
use Rattle.key_order.specs.declared.change.Lack.{Lack}

-- the movement is of the key, and does not come after the place
abbrev pub is_until_of : Key → Place → Entry → Bool
is_until_of key place e = is_of_key key e && not (is_before place e.place)

-- by how many units the movement changes what is held of the key with what stands up to the place and at it
abbrev pub units_until : Key → Place → Entry → ℤ
units_until key place e = if is_until_of key place e then change_units (change_of e) else pos 0

-- the movement is of the key, and comes after the place
abbrev pub is_later_of : Key → Place → Entry → Bool
is_later_of key place e = is_of_key key e && is_before place e.place

-- the place, if it comes before the end, or else the end
abbrev pub nearer : Option Place → Place → Option Place
nearer end place = if is_before_end end place then Some place else end

-- the movement's place, if it is of the key and comes after the place and before the end, or else the end
abbrev pub nearer_after : Option Place → Key → Place → Entry → Option Place
nearer_after end key place e = if is_later_of key place e then nearer end e.place else end

-- the least place after this one of a movement of the key, or the end, if that comes before it
abbrev pub nearest_after : Option Place → List Entry → Key → Place → Option Place
nearest_after end [] key place = end
nearest_after end (e ∷ es) key place = nearest_after (nearer_after end key place e) es key place

-- where the movement stands, and how many units fewer than none are held with it
abbrev pub shortage_with_held : Entry → ℤ → Shortage
shortage_with_held e held = record { place = e.place; item = e.item; store = e.store; lacking = record { 0 = unsigned_abs held } }

-- the lack of the key as a shortage
abbrev pub shortage_by_lack : Key → Lack → Shortage
shortage_by_lack key lack = record { place = lack.place; item = key.item; store = key.store; lacking = lack.lacking }

-- by how many units more are held in the stretch of a movement, where some movements come and others go
abbrev pub units_more : List Entry → List Entry → Entry → ℤ
units_more adds gone e = held_with (changes_of adds) (entry_key e) e.place -ℤ held_with (changes_of gone) (entry_key e) e.place

-- where the stretch of a movement ends: at the next one of its item in its warehouse that comes or goes
abbrev pub end_of_stretch : List Entry → List Entry → Entry → Option Place
end_of_stretch adds gone e = nearest_after (nearest_after None adds (entry_key e) e.place) gone (entry_key e) e.place

-- how many units are held with a movement that comes, of its item in its warehouse, once all come and go
abbrev pub held_with_new : List Entry → List Entry → List Entry → Entry → ℤ
held_with_new line adds gone e = held_before (changes_of line) (entry_key e) e.place +ℤ units_more adds gone e

-- with it fewer units than none are held
abbrev pub lacks_itself : List Entry → List Entry → List Entry → Entry → Bool
lacks_itself line adds gone e = int_lt (held_with_new line adds gone e) (pos 0)

-- the first lack of the line in the stretch of a movement that comes or goes
abbrev pub lack_after : List Entry → List Entry → List Entry → Entry → Option Lack
lack_after line adds gone e = first_lack (changes_of line) (entry_key e) (Some e.place) (end_of_stretch adds gone e) (units_more adds gone e)

-- the same as a shortage
abbrev pub shortage_after : List Entry → List Entry → List Entry → Entry → Option Shortage
shortage_after line adds gone e = option_map (shortage_by_lack (entry_key e)) (lack_after line adds gone e)

-- the first shortage from a movement that comes on, in its stretch
abbrev pub shortage_in_stretch : List Entry → List Entry → List Entry → Entry → Option Shortage
shortage_in_stretch line adds gone e =
    if lacks_itself line adds gone e then Some (shortage_with_held e (held_with_new line adds gone e)) else shortage_after line adds gone e

-- of two shortages the one at the earlier place
abbrev pub earlier : Option Shortage → Option Shortage → Option Shortage
earlier None b = b
earlier (Some a) None = Some a
earlier (Some a) (Some b) = if is_before b.place a.place then Some b else Some a

-- the earliest of the shortages that are told of these movements and of one found before
abbrev pub earliest : Option Shortage → (Entry → Option Shortage) → List Entry → Option Shortage
earliest first told [] = first
earliest first told (e ∷ es) = earliest (earlier first (told e)) told es

-- the first shortage in the stretches of those that come
abbrev pub shortage_by_adds : List Entry → List Entry → List Entry → Option Shortage
shortage_by_adds line adds gone = earliest None (shortage_in_stretch line adds gone) adds

-- the first shortage in the stretches of those that go, which take nothing themselves
abbrev pub shortage_by_gone : List Entry → List Entry → List Entry → Option Shortage
shortage_by_gone line adds gone = earliest None (shortage_after line adds gone) gone
