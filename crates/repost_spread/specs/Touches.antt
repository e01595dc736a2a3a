-- Which movements one that comes or goes, or one charge, touches.
use Rattle.std.specs.Prelude.{ℕ, ◌≡◌, Bool, true, false, ◌==◌, List, fold, Some, Contains, if◌then◌else◌, ◌⊎◌}
use Rattle.std.specs.List.{list_any}
use Rattle.std.specs.List.Sorted.{IsNonDecreasingBy}
use Rattle.stock_nums.specs.Causes.{is_entering}
use Rattle.stock_nums.specs.Places.{is_before}
use Rattle.stock_nums.specs.declared.cause.Method.TheVariants.{Fifo, Average}
use Rattle.stock_nums.specs.declared.cause.Target.{Target}
use Rattle.stock_nums.specs.declared.entry.Entry.{Entry}
use Rattle.stock_nums.specs.declared.place.Place.{Place}
use Rattle.stock_nums.specs.declared.place.Side.{Side}
use Rattle.stock_model.specs.Returns.{is_return_of, returns_of}
use Rattle.stock_model.specs.Values.{own_line}
use Rattle.cost_links.specs.declared.charges.Charge.{Charge}
use Rattle.repost_frontier.specs.Slots.{marks}
use Rattle.repost_frontier.specs.declared.slot.Slot.{Slot}
use Rattle.repost_laws.specs.Looks.{IsNextAfter}
use Rattle.repost_laws.specs.Touched.{next_of_key}

-- the second is the next of the first one's item in its warehouse, and costed at the moving average
abbrev pub ComesNext : List Entry → Entry → Entry → Type 0
ComesNext line g f = (f.method ≡ Average) × (next_of_key line g ≡ Some f)

-- the movement leaves first in, first out
abbrev pub LeavesFirstIn : Entry → Type 0
LeavesFirstIn f = (f.method ≡ Fifo) × (is_entering f.place.side ≡ false)

-- the second leaves first in, first out, and the first is the last one that passes of its item in its warehouse before it
abbrev pub LeavesNext : (Entry → Bool) → List Entry → Entry → Entry → Type 0
LeavesNext test line g f = (f.method ≡ Fifo) × (is_entering f.place.side ≡ false) × IsNextAfter test line g f

-- the movement is of the line
abbrev pub IsOfLine : Target → Entry → Type 0
IsOfLine line f = own_line f ≡ line

abbrev pub IsOfSide : Target → Side → Entry → Type 0
IsOfSide line side f = (own_line f ≡ line) × (f.place.side ≡ side)

-- the movements with this one suspect, if it passes the test
abbrev pub mark_passing : (Entry → Bool) → List Slot → Entry → List Slot
mark_passing test slots e = if test e then marks slots e.place else slots

-- the movements with those of these suspect that pass it
abbrev pub passing_marked : (Entry → Bool) → List Slot → List Entry → List Slot
passing_marked test slots es = fold (mark_passing test) slots es

-- the movement comes after the place
abbrev pub is_after : Place → Entry → Bool
is_after place e = is_before place e.place

-- both return units of one line, and the second comes later
abbrev pub ReturnsLater : Entry → Entry → Type 0
ReturnsLater g f =
    (target : Target) × (returns_of target g ≡ true) × (is_return_of target f.cause ≡ true) × (is_before g.place f.place ≡ true)

-- the second is touched by the first, which passes, in one of these ways
abbrev pub ComesAfter : (Entry → Bool) → List Entry → Entry → Entry → Type 0
ComesAfter test line g f = ComesNext line g f ⊎ (LeavesNext test line g f ⊎ ReturnsLater g f)

-- so it is by one of these, which pass
abbrev pub ComesAfterOne : (Entry → Bool) → List Entry → List Entry → Entry → Type 0
ComesAfterOne test line es f = (g : Entry) × Contains es g × ComesAfter test line g f

-- it stands where one of these does
abbrev pub IsAtOne : List Entry → Entry → Type 0
IsAtOne es f = (g : Entry) × Contains es g × (f.place ≡ g.place)

-- one of these charges is to its line
abbrev pub IsChargedByOne : List Charge → Entry → Type 0
IsChargedByOne charges f = (charge : Charge) × Contains charges charge × IsOfLine charge.line f

-- a movement's record
abbrev pub record_of : Entry → ℕ
record_of e = e.place.voucher.0

-- one of the movements is of the record with this number
abbrev pub is_record_of : ℕ → Entry → Bool
is_record_of k e = record_of e == k

abbrev pub has_record : List Entry → ℕ → Bool
has_record es k = list_any (is_record_of k) es

-- the movements are in the order of their records
abbrev pub AreByRecord : List Entry → Type 0
AreByRecord es = IsNonDecreasingBy record_of es

-- of the line these movements are all of their records, and they are in the order of these
pub record AreOfRecords (line es : List Entry) : Type 0 where
  pub held : (e : Entry) → Contains es e → Contains line e
  pub whole : (e : Entry) → Contains line e → has_record es (record_of e) ≡ true → Contains es e
  pub by_record : AreByRecord es
