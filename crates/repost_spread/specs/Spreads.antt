-- To which movements the change of one spreads.
use Rattle.std.specs.Prelude.{ℕ, ◌≡◌, ◌+◌, ◌<◌, ◌≤◌, Bool, true, ◌&&◌, List}
use Rattle.stock_nums.specs.Places.{is_before}
use Rattle.stock_nums.specs.declared.entry.Entry.{Entry}
use Rattle.stock_nums.specs.declared.entry.Key.{Key}
use Rattle.stock_nums.specs.declared.place.Place.{Place}
use Rattle.stock_model.specs.Conservation.{is_customer_return}
use Rattle.stock_model.specs.Enough.{leaves_under}
use Rattle.repost_laws.specs.Looks.{EntersBy, ComesBack}
use Rattle.repost_laws.specs.Ranges.{units_out_before}

-- the second enters by the transfer line of the first, later
abbrev pub EntersLaterBy : Entry → Entry → Type 0
EntersLaterBy e f = (is_before e.place f.place ≡ true) × EntersBy e f

-- the second is a customer's return of the line of the first, later
abbrev pub ComesBackLater : Entry → Entry → Type 0
ComesBackLater e f = (is_before e.place f.place ≡ true) × ComesBack e f

-- the movement is a customer's return, after the place
abbrev pub is_back_after : Place → Entry → Bool
is_back_after place e = is_customer_return e.cause && is_before place e.place

-- the movement leaves under the key, with a unit that has a number from this one until that one
pub record LeavesWithin (line : List Entry) (key : Key) (from until : ℕ) (f : Entry) : Type 0 where
  pub leaves : leaves_under key f ≡ true
  pub unit : ℕ
  pub within_from : from ≤ unit
  pub within_until : unit < until
  pub begun : units_out_before line f ≤ unit
  pub ends_later : unit < units_out_before line f + f.qty.0
