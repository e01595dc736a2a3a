-- Which movements look at which: said of the movements themselves, as an index of the line finds them.
use Rattle.std.specs.Prelude.{ℕ, ◌≡◌, Bool, true, false, List, Some, Contains, ◌⊎◌}
use Rattle.stock_nums.specs.Causes.{is_entering}
use Rattle.stock_nums.specs.Places.{is_before}
use Rattle.stock_nums.specs.declared.cause.Cause.TheVariants.{Issue, TransferLeaves, TransferEnters, CustomerReturn, SupplierReturn}
use Rattle.stock_nums.specs.declared.cause.Method.TheVariants.{Fifo, Average}
use Rattle.stock_nums.specs.declared.cause.Target.{Target}
use Rattle.stock_nums.specs.declared.entry.Entry.{Entry}
use Rattle.stock_nums.specs.declared.numbers.Minor.{Minor}
use Rattle.stock_nums.specs.declared.numbers.Qty.{Qty}
use Rattle.stock_model.specs.Enough.{entry_key, is_of_key}
use Rattle.stock_model.specs.Returns.{is_return_of, returns_of}
use Rattle.stock_model.specs.Values.{own_line}
use Rattle.repost_laws.specs.Ranges.{RangesMeet}
use Rattle.repost_laws.specs.Touched.{is_new, next_of_key}

-- movements of one record have one moment
abbrev pub HaveOneMoment : List Entry → Type 0
HaveOneMoment line = (e f : Entry) → Contains line e → Contains line f → e.place.voucher.0 ≡ f.place.voucher.0
    → e.place.moment ≡ f.place.moment

-- the second enters by the transfer line of the first, or returns units of the first one's line
abbrev pub EntersBy : Entry → Entry → Type 0
EntersBy e f = (f.cause ≡ TransferEnters) × (own_line f ≡ own_line e)

abbrev pub ComesBack : Entry → Entry → Type 0
ComesBack e f = (target : Target) × (issued : Qty) × (f.cause ≡ CustomerReturn target issued) × (target ≡ own_line e)

-- what the first takes out of its warehouse comes into one with the second, later
abbrev pub IsLinkedTo : Entry → Entry → Type 0
IsLinkedTo e f = (is_entering e.place.side ≡ false) × (is_before e.place f.place ≡ true) × (EntersBy e f ⊎ ComesBack e f)

-- the second leaves first in, first out and takes a unit that the first brought
abbrev pub TakesUnits : List Entry → Entry → Entry → Type 0
TakesUnits line e f = (f.method ≡ Fifo) × (is_entering f.place.side ≡ false) × RangesMeet line e f

-- the first is a movement before the second that passes a test, of its item in its warehouse, and no other such stands between
-- them
pub record IsNextAfter (test : Entry → Bool) (line : List Entry) (g f : Entry) : Type 0 where
  pub held : Contains line g
  pub new : test g ≡ true
  pub of_key : is_of_key (entry_key f) g ≡ true
  pub before : is_before g.place f.place ≡ true
  pub none_between : (h : Entry) → Contains line h → test h ≡ true → is_of_key (entry_key f) h ≡ true
      → is_before g.place h.place ≡ true → is_before h.place f.place ≡ true → ⊥

-- at the moving average, the movement starts from one that passes
abbrev pub StartsFromOne : (Entry → Bool) → List Entry → Entry → Type 0
StartsFromOne test line f =
    (f.method ≡ Average)
    × (g : Entry) × (test g ≡ true) × Contains line g × (next_of_key line g ≡ Some f)

-- first in, first out, it leaves after one that passes of its item in its warehouse
abbrev pub LeavesAfterOne : (Entry → Bool) → List Entry → Entry → Type 0
LeavesAfterOne test line f =
    (f.method ≡ Fifo) × (is_entering f.place.side ≡ false) × (g : Entry) × IsNextAfter test line g f

-- it is a return, and a return of the same line that passes comes before it
pub record FollowsReturn (test : Entry → Bool) (line : List Entry) (f : Entry) : Type 0 where
  pub target : Target
  pub returns : is_return_of target f.cause ≡ true
  pub g : Entry
  pub held : Contains line g
  pub new : test g ≡ true
  pub same : returns_of target g ≡ true
  pub before : is_before g.place f.place ≡ true

-- the same of new movements
abbrev pub IsNextAfterNew : ℕ → List Entry → Entry → Entry → Type 0
IsNextAfterNew n = IsNextAfter (is_new n)

abbrev pub StartsFromNew : ℕ → List Entry → Entry → Type 0
StartsFromNew n = StartsFromOne (is_new n)

abbrev pub LeavesAfterNew : ℕ → List Entry → Entry → Type 0
LeavesAfterNew n = LeavesAfterOne (is_new n)

abbrev pub FollowsNewReturn : ℕ → List Entry → Entry → Type 0
FollowsNewReturn n = FollowsReturn (is_new n)

-- the movement is an issue, the side of a transfer that leaves, or a return to a supplier
abbrev pub IsIssue : Entry → Type 0
IsIssue e = (sold : Bool) × (e.cause ≡ Issue sold)

abbrev pub IsSupplierReturn : Entry → Type 0
IsSupplierReturn e = (target : Target) × (amount : Minor) × (received : Qty) × (e.cause ≡ SupplierReturn target amount received)

abbrev pub GoesOut : Entry → Type 0
GoesOut e = IsIssue e ⊎ ((e.cause ≡ TransferLeaves) ⊎ IsSupplierReturn e)
