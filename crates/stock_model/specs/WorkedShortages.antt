-- Movements of one second, as an example.
use Rattle.std.specs.Prelude.{ℕ, pos, true, List, [], ◌∷◌, IsTrue, refl}
use Rattle.std.proofs.Common.{lit<, lit≤}
use Rattle.stock_nums.specs.Causes.{has_amounts_in_range, has_side}
use Rattle.stock_nums.specs.declared.cause.Cause.{Cause}
use Rattle.stock_nums.specs.declared.cause.Cause.TheVariants.{Receipt, Issue}
use Rattle.stock_nums.specs.declared.cause.Method.TheVariants.{Average}
use Rattle.stock_nums.specs.declared.entry.Entry.{Entry}
use Rattle.stock_nums.specs.declared.place.Side.{Side}
use Rattle.stock_nums.specs.declared.place.Side.TheVariants.{Leaves, Enters}
use Rattle.stock_model.specs.declared.shortages.Shortage.{Shortage}
use Rattle.stock_model.specs.PostingOrder.{put_all}
use Rattle.stock_model.specs.Worked.{nine}

-- why a unit moves: it is received, or sold
abbrev pub moved_by : Side → Cause
moved_by Enters = Receipt (record { 0 = pos 0 })
moved_by Leaves = Issue true

pub moved_by-sides : (side : Side) → IsTrue (has_side (moved_by side) side)
moved_by-sides Enters = refl
moved_by-sides Leaves = refl

pub moved_by-amounts : (side : Side) → IsTrue (has_amounts_in_range (moved_by side))
moved_by-amounts Enters = refl
moved_by-amounts Leaves = refl

-- one unit of item 1, into or out of a warehouse by a record, both given by their numbers
abbrev pub one_unit : Side → ℕ → ℕ → Entry
one_unit side store n =
    record {
      place = record { moment = nine; voucher = record { 0 = n }; line = 1; side = side };
      item = record { 0 = 1 };
      store = record { 0 = store };
      qty = record { 0 = 1 };
      method = Average;
      cause = moved_by side;
      quantity = (lit< tt, lit≤ tt);
      amounts = moved_by-amounts side;
      sides = moved_by-sides side;
    }

-- a unit into warehouse 2 and a unit out of a warehouse, in posting order
abbrev pub in_and_out : ℕ → ℕ → ℕ → List Entry
in_and_out receipt issue store = put_all [] (one_unit Enters 2 receipt ∷ one_unit Leaves store issue ∷ [])

-- one unit is lacking where the record takes it out of the warehouse
abbrev pub one_lacking : ℕ → ℕ → Shortage
one_lacking issue store =
    record {
      place = (one_unit Leaves store issue).place;
      item = record { 0 = 1 };
      store = record { 0 = store };
      lacking = record { 0 = 1 };
    }
