-- Movements by their places: the one at a place, its neighbours of an item in a warehouse, those up to a moment.
use Rattle.std.specs.Prelude.{◌≡◌, ℕ, Bool, ◌&&◌, not, List, length, filter, reverse, Option, IsTrue, All, Contains}
use Rattle.std.specs.List.{find}
use Rattle.std.specs.Option.{option_map}
use Rattle.stock_nums.specs.Places.{is_before}
use Rattle.stock_nums.specs.declared.entry.Entry.{Entry}
use Rattle.stock_nums.specs.declared.entry.Key.{Key}
use Rattle.stock_nums.specs.declared.moment.Moment.{Moment}
use Rattle.stock_nums.specs.declared.place.Place.{Place}
use Rattle.stock_nums.specs.Places.{is_later}
use Rattle.stock_model.specs.Enough.{entry_key, is_of_key}
use Rattle.key_order.specs.SamePlace.{is_same_place}

-- the movement stands at this place
abbrev pub is_at : Place → Entry → Bool
is_at place e = is_same_place e.place place

-- the movement at this place
abbrev pub entry_at : List Entry → Place → Option Entry
entry_at es place = find (is_at place) es

-- the movements but the one at this place
abbrev pub without : List Entry → Place → List Entry
without es place = filter (λ e. not (is_at place e)) es

-- the movement comes before the place
abbrev pub comes_before : Place → Entry → Bool
comes_before place e = is_before e.place place

-- the movement comes after the place
abbrev pub comes_after : Place → Entry → Bool
comes_after place e = is_before place e.place

-- where the movement stands
abbrev pub entry_place : Entry → Place
entry_place e = e.place

-- the place of the first movement of the key that comes after the place
abbrev pub next_place : List Entry → Key → Place → Option Place
next_place es key place = option_map entry_place (find (λ e. is_of_key key e && comes_after place e) es)

-- the place of the last movement of the key that comes before the place
abbrev pub previous_place : List Entry → Key → Place → Option Place
previous_place es key place = option_map entry_place (find (λ e. is_of_key key e && comes_before place e) (reverse es))

-- one of the movements is of the key and stands at this place
abbrev pub HasOfKey : List Entry → Key → Place → Type 0
HasOfKey es key place = (e : Entry) × Contains es e × (entry_key e ≡ key) × (e.place ≡ place)

-- no movement of the key comes after the first place and before the second
abbrev pub HasNoneBetween : List Entry → Key → Place → Place → Type 0
HasNoneBetween es key from to =
    All (λ e. entry_key e ≡ key → IsTrue (is_before from e.place) → IsTrue (is_before e.place to) → ⊥) es

-- no movement of the key comes after the place
abbrev pub HasNoneAfter : List Entry → Key → Place → Type 0
HasNoneAfter es key place = All (λ e. entry_key e ≡ key → IsTrue (is_before place e.place) → ⊥) es

-- no movement of the key comes before the place
abbrev pub HasNoneBefore : List Entry → Key → Place → Type 0
HasNoneBefore es key place = All (λ e. entry_key e ≡ key → IsTrue (is_before e.place place) → ⊥) es

-- the next place of the key after a place: it has a movement of the key, and none lies between
pub record IsNextPlace (es : List Entry) (key : Key) (place next : Place) : Type 0 where
  pub of_key : HasOfKey es key next
  pub after : IsTrue (is_before place next)
  pub none_between : HasNoneBetween es key place next

-- the previous place of the key before a place: it has a movement of the key, and none lies between
pub record IsPreviousPlace (es : List Entry) (key : Key) (place previous : Place) : Type 0 where
  pub of_key : HasOfKey es key previous
  pub before : IsTrue (is_before previous place)
  pub none_between : HasNoneBetween es key previous place

-- the movement's moment is not after this one
abbrev pub is_until : Moment → Entry → Bool
is_until moment e = not (is_later e.place.moment moment)

-- how many movements have a moment that is not after this one
abbrev pub count_until : List Entry → Moment → ℕ
count_until es moment = length (filter (is_until moment) es)
