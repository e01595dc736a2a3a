-- How a movement is valued from what was found of the movements before it, by its line alone and with no replay.
use Rattle.std.specs.Prelude.{ℕ, pos, ◌≡◌, ◌+◌, Bool, ◌&&◌, not, List, [], map, filter, reverse, fold, sum_by, unsigned_abs, Option, Some, None, if◌then◌else◌, Contains}
use Rattle.std.specs.List.{find}
use Rattle.std.specs.Option.{option_map_or}
use Rattle.stock_nums.specs.Causes.{is_entering}
use Rattle.stock_nums.specs.Places.{is_before}
use Rattle.stock_nums.specs.Targets.{is_same_target}
use Rattle.stock_nums.specs.declared.cause.Cause.{Cause}
use Rattle.stock_nums.specs.declared.cause.Cause.TheVariants.{Receipt, TransferEnters, CustomerReturn, SupplierReturn}
use Rattle.stock_nums.specs.declared.cause.Method.{Method}
use Rattle.stock_nums.specs.declared.cause.Method.TheVariants.{Fifo, Average}
use Rattle.stock_nums.specs.declared.cause.Target.{Target}
use Rattle.stock_nums.specs.declared.entry.Entry.{Entry}
use Rattle.stock_nums.specs.declared.entry.Key.{Key}
use Rattle.stock_nums.specs.declared.entry.Row.{Row}
use Rattle.stock_nums.specs.declared.entry.Worth.{Worth}
use Rattle.stock_nums.specs.declared.place.Place.{Place}
use Rattle.stock_model.specs.Enough.{entry_key, is_of_key, enters_under, departed, entry_units}
use Rattle.stock_model.specs.Returns.{returned}
use Rattle.stock_model.specs.Values.{own_line}
use Rattle.cost_links.specs.Sources.{comes_before}
use Rattle.cost_links.specs.Tables.{Held}
use Rattle.cost_links.specs.Taken.{Taken, value_taken, share_taken, held_after}
use Rattle.repost_laws.specs.Pieces.{Piece, pieces, whole, has_units, piece_value}

-- what was found of a movement: its worth, and what its warehouse holds of its item after it at the moving average
pub record Valued : Type 0 where
  pub worth : Worth
  pub after : Held

-- what was found of the movement at each place: none where it was never valued
abbrev pub Found : Type 0
Found = Place → Option Valued

-- nothing held, and a movement worth nothing
abbrev pub empty : Held
empty = record { units = 0; value = 0 }

abbrev pub no_worth : Worth
no_worth = record { value = record { 0 = pos 0 }; share = record { 0 = pos 0 } }

abbrev pub worth_of : Valued → Worth
worth_of valued = valued.worth

abbrev pub after_of : Valued → Held
after_of valued = valued.after

-- what the movement was found to be worth
abbrev pub found_worth : Found → Entry → Worth
found_worth found e = option_map_or worth_of (found e.place) no_worth

abbrev pub found_value : Found → Entry → ℕ
found_value found e = unsigned_abs (found_worth found e).value.0

-- the movements with what each was found to be worth
abbrev pub found_row : Found → Entry → Row
found_row found e = record { entry = e; worth = found_worth found e }

abbrev pub found_rows : Found → List Entry → List Row
found_rows found line = map (found_row found) line

-- those movements of the line that come before this one
abbrev pub earlier : List Entry → Entry → List Entry
earlier line e = filter (comes_before e.place) line

-- the last of these movements that is of the item in the warehouse
abbrev pub last_of_key : List Entry → Key → Option Entry
last_of_key past key = find (is_of_key key) (reverse past)

-- what was found to be held after a movement, and where there was none, nothing
abbrev pub held_then : Found → Option Entry → Held
held_then found None = empty
held_then found (Some f) = option_map_or after_of (found f.place) empty

-- what is held before the movement: at the moving average, what was found after the last movement of its item in its
-- warehouse. First in, first out nothing is held so
abbrev pub held_before_by : Method → Found → List Entry → Entry → Held
held_before_by Fifo found past e = empty
held_before_by Average found past e = held_then found (last_of_key past (entry_key e))

-- the pieces of what entered that the movement takes when it leaves first in, first out: the units that come after all
-- that left before
abbrev pub pieces_taken : List Entry → Entry → List (Piece Entry)
pieces_taken past e =
    let out = departed past (entry_key e) in
    filter has_units (pieces entry_units (filter (enters_under (entry_key e)) past) out (out + e.qty.0))

abbrev pub pieces_taken_by : Method → List Entry → Entry → List (Piece Entry)
pieces_taken_by Fifo past e = pieces_taken past e
pieces_taken_by Average past e = []

-- the movement leaves by the line
abbrev pub is_leaving_by : Target → Entry → Bool
is_leaving_by line f = is_same_target (own_line f) line && not (is_entering f.place.side)

-- all of what left by a line
abbrev pub left_by : List Entry → Target → List (Piece Entry)
left_by past line = map (whole entry_units) (filter (is_leaving_by line) past)

-- from which pieces of earlier movements a movement takes its value over: what is received from none, what enters by a
-- transfer from what left by the same line, what a customer returns from what left by the issue's line, and what leaves
-- from what entered, where its item is costed first in, first out
abbrev pub sources_by : List Entry → Entry → Cause → List (Piece Entry)
sources_by past e (Receipt amount) = []
sources_by past e TransferEnters = left_by past (own_line e)
sources_by past e (CustomerReturn target issued) = left_by past target
sources_by past e _ = pieces_taken_by e.method past e

abbrev pub sources : List Entry → Entry → List (Piece Entry)
sources past e = sources_by past e e.cause

-- what these pieces are worth by what was found
abbrev pub taken_over : Found → List (Piece Entry) → ℕ
taken_over found taken = sum_by (piece_value entry_units (found_value found)) taken

-- how many units of its target earlier movements return, where the movement is a return
abbrev pub back_by : List Entry → Cause → ℕ
back_by past (CustomerReturn target issued) = returned past target
back_by past (SupplierReturn target amount received) = returned past target
back_by past _ = 0

-- all that the movement takes over from earlier ones, and from what is charged to each line
abbrev pub taken_from : (Target → ℕ) → Found → List Entry → Entry → Taken
taken_from charged found past e =
    record {
      charged = charged (own_line e);
      back = back_by past e.cause;
      held = held_before_by e.method found past e;
      linked = taken_over found (sources past e);
    }

-- what a movement is worth that takes over so much, and what is held after it
abbrev pub valued_with : Taken → Entry → Valued
valued_with t e =
    record {
      worth = record { value = record { 0 = value_taken t e e.cause }; share = record { 0 = share_taken t e e.cause } };
      after = held_after t e;
    }

-- the movement valued from what was found of those of the line that come before it
abbrev pub valuation : (Target → ℕ) → Found → List Entry → Entry → Valued
valuation charged found line e = valued_with (taken_from charged found (earlier line e) e) e

-- what was found of the movement is what it is valued at from what was found of the others
abbrev pub IsLocal : (Target → ℕ) → Found → List Entry → Entry → Type 0
IsLocal charged found line e = found e.place ≡ Some (valuation charged found line e)

-- so it is of each movement of the line
abbrev pub AreLocal : (Target → ℕ) → Found → List Entry → Type 0
AreLocal charged found line = (e : Entry) → Contains line e → IsLocal charged found line e

-- the two places are one: neither comes before the other
abbrev pub is_one_place : Place → Place → Bool
is_one_place p q = not (is_before p q) && not (is_before q p)

-- what was found, with one more movement valued
abbrev pub found_with : (Target → ℕ) → List Entry → Found → Entry → Found
found_with charged line found e place = if is_one_place place e.place then Some (valuation charged found line e) else found place

abbrev pub nothing_found : Found
nothing_found place = None

-- what is found where all movements of a line are valued in their order
abbrev pub found_in_order : (Target → ℕ) → List Entry → Found
found_in_order charged line = fold (found_with charged line) nothing_found line
