-- Which movements need a new value when records come in, and when what was found of one movement changes.
use Rattle.std.specs.Prelude.{ℕ, ◌≡◌, Bool, false, ◌&&◌, ◌||◌, ◌==◌, not, List, filter, nat_lt, Option, Some, Contains, ◌⊎◌}
use Rattle.std.specs.List.{find, list_any}
use Rattle.std.specs.Option.{option_map, option_map_or}
use Rattle.std.specs.Ordering.{int_eq}
use Rattle.stock_nums.specs.Causes.{is_entering}
use Rattle.stock_nums.specs.Places.{is_before}
use Rattle.stock_nums.specs.Targets.{is_same_target}
use Rattle.stock_nums.specs.declared.cause.Cause.{Cause}
use Rattle.stock_nums.specs.declared.cause.Cause.TheVariants.{CustomerReturn, SupplierReturn}
use Rattle.stock_nums.specs.declared.cause.Method.{Method}
use Rattle.stock_nums.specs.declared.cause.Method.TheVariants.{Fifo, Average}
use Rattle.stock_nums.specs.declared.cause.Target.{Target}
use Rattle.stock_nums.specs.declared.entry.Entry.{Entry}
use Rattle.stock_nums.specs.declared.place.Place.{Place}
use Rattle.stock_model.specs.Enough.{entry_key, is_of_key}
use Rattle.stock_model.specs.Returns.{returns_of}
use Rattle.stock_model.specs.Values.{own_line}
use Rattle.stock_model.specs.VoucherLines.{charged_targets}
use Rattle.stock_model.specs.declared.records.Record.{Record}
use Rattle.cost_links.specs.Sources.{entry_place}
use Rattle.cost_links.specs.Tables.{Held}
use Rattle.repost_laws.specs.Pieces.{Piece}
use Rattle.repost_laws.specs.Valuations.{Valued, Found, earlier, last_of_key, sources}

-- the movement is of a record after the first n ones, or of one of these
abbrev pub is_new : ℕ → Entry → Bool
is_new n e = nat_lt n e.place.voucher.0

abbrev pub is_old : ℕ → Entry → Bool
is_old n e = not (is_new n e)

-- the movement is of a record that goes, or of none of those
abbrev pub is_gone : (ℕ → Bool) → Entry → Bool
is_gone gone e = gone e.place.voucher.0

abbrev pub is_left : (ℕ → Bool) → Entry → Bool
is_left gone e = not (is_gone gone e)

-- it comes, or it goes
abbrev pub is_changed : ℕ → (ℕ → Bool) → Entry → Bool
is_changed n gone e = is_new n e || is_gone gone e

-- a movement that passes changed what the stock is before this one: at the moving average it is the last one of the same
-- item in the same warehouse, and first in, first out it is any earlier one, where this one leaves
abbrev pub follows_by : Method → (Entry → Bool) → List Entry → Entry → Bool
follows_by Average test past e = option_map_or test (last_of_key past (entry_key e)) false
follows_by Fifo test past e = not (is_entering e.place.side) && list_any test (filter (is_of_key (entry_key e)) past)

-- where the movement is a return, an earlier return of the same line passes
abbrev pub follows_return : (Entry → Bool) → List Entry → Cause → Bool
follows_return test past (CustomerReturn target issued) = list_any test (filter (returns_of target) past)
follows_return test past (SupplierReturn target amount received) = list_any test (filter (returns_of target) past)
follows_return test past _ = false

-- a movement that passes changed what this one takes over from earlier ones, by the stock or by what was returned
abbrev pub follows_any : (Entry → Bool) → List Entry → Entry → Bool
follows_any test past e = follows_by e.method test past e || follows_return test past e.cause

-- new records touch their own movements, those whose line they charge something to, and those that come after theirs: at
-- the moving average the next one, first in, first out all that leave, and of returns all further ones of the same line
abbrev pub is_touched : ℕ → (Target → Bool) → List Entry → Entry → Bool
is_touched n is_charged line e = is_new n e || (is_charged (own_line e) || follows_any (is_new n) (earlier line e) e)

-- where records come and others go, they touch the movements that come, those whose line another sum is charged to, and those
-- that come after what comes or goes, among all that were there or are there now
abbrev pub is_touched_by : ℕ → (ℕ → Bool) → (Target → Bool) → List Entry → Entry → Bool
is_touched_by n gone is_charged both e = is_new n e || (is_charged (own_line e) || follows_any (is_changed n gone) (earlier both e) e)

-- the movement starts from what is held after the one at the place
abbrev pub StartsFrom : List Entry → Place → Entry → Type 0
StartsFrom line place e =
    (e.method ≡ Average) × (option_map entry_place (last_of_key (earlier line e) (entry_key e)) ≡ Some place)

-- the movement takes value over from the one at the place
abbrev pub TakesFrom : List Entry → Place → Entry → Type 0
TakesFrom line place e = (piece : Piece Entry) × Contains (sources (earlier line e) e) piece × (piece.giver.place ≡ place)

-- what is found of the movement at the place spreads to these
abbrev pub SpreadsTo : List Entry → Place → Entry → Type 0
SpreadsTo line place e = StartsFrom line place e ⊎ TakesFrom line place e

-- the same is held after the two
abbrev pub is_same_held : Held → Held → Bool
is_same_held a b = (a.units == b.units) && (a.value == b.value)

abbrev pub has_same_after : Valued → Valued → Bool
has_same_after now was = is_same_held was.after now.after

abbrev pub has_same_value : Valued → Valued → Bool
has_same_value now was = int_eq was.worth.value.0 now.worth.value.0

-- the same was found at the place before: of what is held, and of what the movement is worth
abbrev pub had_after : Found → Place → Valued → Bool
had_after found place now = option_map_or (has_same_after now) (found place) false

abbrev pub had_value : Found → Place → Valued → Bool
had_value found place now = option_map_or (has_same_value now) (found place) false

-- what is now found at the place marks the movement: it starts from there, and what is held there or the value changed, or
-- it takes value over from there, and the value changed. What is found first is a change
abbrev pub IsMarked : List Entry → Found → Place → Valued → Entry → Type 0
IsMarked line found place now e =
    (StartsFrom line place e × ((had_after found place now && had_value found place now) ≡ false))
    ⊎ (TakesFrom line place e × (had_value found place now ≡ false))

-- the two lines are one
abbrev pub is_the_line : Target → Target → Bool
is_the_line line target = is_same_target target line

abbrev pub charges_to : Target → Record → Bool
charges_to line item = list_any (is_the_line line) (charged_targets item.what)

-- one of the records charges something to the line
abbrev pub is_charged_by : List Record → Target → Bool
is_charged_by more line = list_any (charges_to line) more

-- the first movement of the line that comes after this one and is of the same item in the same warehouse
abbrev pub follows_in_key : Entry → Entry → Bool
follows_in_key g f = is_of_key (entry_key g) f && is_before g.place f.place

abbrev pub next_of_key : List Entry → Entry → Option Entry
next_of_key line g = find (follows_in_key g) line
