-- The moments of records, by their numbers.
use Rattle.std.specs.Prelude.{ℕ, ◌≡◌, ◌≢◌, ◌<◌, ◌-◌, List, length, Some, slice_get}
use Rattle.stock_nums.specs.declared.cause.Target.{Target}
use Rattle.stock_nums.specs.declared.moment.Moment.{Moment}
use Rattle.stock_nums.specs.declared.place.Place.{Place}
use Rattle.stock_nums.specs.declared.place.Side.{Side}

-- the moment that is kept for the place's record is its own
pub record IsMomentAt (moments : List Moment) (place : Place) : Type 0 where
  pub numbered : 0 < place.voucher.0
  pub kept : slice_get moments (place.voucher.0 - 1) ≡ Some place.moment

-- the moment stands at the index, and all others stay
pub record IsMomentPut (old new : List Moment) (index : ℕ) (moment : Moment) : Type 0 where
  pub own : slice_get new index ≡ Some moment
  pub others : (i : ℕ) → i < length old → i ≢ index → slice_get new i ≡ slice_get old i

-- the place is of this line of a voucher, on this side
pub record IsPlaceOf (own : Target) (on : Side) (place : Place) : Type 0 where
  pub voucher : place.voucher ≡ own.voucher
  pub line : place.line ≡ own.line
  pub side : place.side ≡ on
