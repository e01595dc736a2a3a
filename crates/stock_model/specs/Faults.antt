-- Why a record is refused: the first fault in the one order of faults, with its data.
use Rattle.std.specs.Prelude.{ℕ, ◌+◌, ◌-◌, Bool, false, not, ◌||◌, ◌==◌, List, [], ◌∷◌, ◌++◌, length, sum, nat_eq, nat_lt, nat_le, if◌then◌else◌, Option, Some, None, is_some, is_none}
use Rattle.std.specs.Option.{option_map, option_map_or, option_or, option_and_then}
use Rattle.std.specs.List.{list_any}
use Rattle.std.specs.Cmp.Lexicographic.{pointwise}
use Rattle.stock_nums.specs.Accounts.{is_store_account}
use Rattle.stock_nums.specs.Codes.{is_code}
use Rattle.stock_nums.specs.Places.{is_later}
use Rattle.stock_nums.specs.Targets.{is_same_target}
use Rattle.stock_nums.specs.declared.limits.TheConstants.{MAX_RECORDS, MAX_ENTRIES}
use Rattle.stock_nums.specs.declared.cause.Target.{Target}
use Rattle.stock_nums.specs.declared.moment.Moment.{Moment}
use Rattle.stock_model.specs.declared.faults.PostFault.{PostFault}
use Rattle.stock_model.specs.declared.faults.PostFault.TheVariants.{CodeTaken, CodeShape, AccountRange, UnknownItem, UnknownStore, SameStore, UnknownTarget, NotLive, Linked, LinkLater, RepeatedTarget, OverReturn, NoBasis, Frozen, Full, Short}
use Rattle.stock_model.specs.declared.line_faults.LineTest.{LineTest}
use Rattle.stock_model.specs.declared.line_faults.LineTest.TheVariants.{LacksItem, LacksStore, Stays, AsksMore}
use Rattle.stock_model.specs.declared.target_faults.TargetTest.{TargetTest}
use Rattle.stock_model.specs.declared.target_faults.TargetTest.TheVariants.{IsUnknown, ComesLater}
use Rattle.stock_model.specs.declared.targets.NamedTarget.{NamedTarget}
use Rattle.stock_model.specs.declared.vouchers.What.{What}
use Rattle.stock_model.specs.declared.vouchers.What.TheVariants.{Item, Store, Landed, Cancel}
use Rattle.stock_model.specs.declared.shortages.Shortage.{Shortage}
use Rattle.stock_model.specs.declared.records.Record.{Record}
use Rattle.stock_model.specs.Masters.{item_with, store_with, record_at}
use Rattle.stock_model.specs.VoucherLines.{Subject, Coded, OfTarget, VoucherLine, moment_of, lines_of, targets_of, charged_targets}
use Rattle.stock_model.specs.TargetLines.{line_numbered, target_line, target_moment}
use Rattle.stock_model.specs.Entries.{is_live, entries, all_entries}
use Rattle.stock_model.specs.Cancelling.{is_voucher_in_force, first_link}
use Rattle.stock_model.specs.Returns.{returned, line_units}
use Rattle.stock_model.specs.LandedCost.{weights}
use Rattle.stock_model.specs.Freezing.{is_closed, frozen}
use Rattle.stock_model.specs.PostingOrder.{posting_line}
use Rattle.stock_model.specs.Enough.{shortage}

-- the number of the first that passes the test, the first of all being n
abbrev pub first_line : {X : Type 0} → (X → Bool) → ℕ → List X → Option ℕ
first_line test n [] = None
first_line test n (x ∷ xs) = if test x then Some n else first_line test (n + 1) xs

-- a new item has the code of an item, or a new warehouse that of a warehouse
abbrev pub code_taken : List Record → What → Option PostFault
code_taken journal (Item code method) = if is_some (item_with journal code) then Some CodeTaken else None
code_taken journal (Store code account) = if is_some (store_with journal code) then Some CodeTaken else None
code_taken journal _ = None

-- the new code is not of the stated shape
abbrev pub code_shape : What → Option PostFault
code_shape (Item code method) = if is_code code then None else Some CodeShape
code_shape (Store code account) = if is_code code then None else Some CodeShape
code_shape _ = None

-- the new warehouse's account is not from 100 to 9999
abbrev pub account_range : What → Option PostFault
account_range (Store code account) = if is_store_account account.0 then None else Some AccountRange
account_range _ = None

-- no item has the code
abbrev pub is_unknown_item : List Record → Subject → Bool
is_unknown_item journal (Coded code) = is_none (item_with journal code)
is_unknown_item journal (OfTarget named) = false

-- the line names an item that there is not
abbrev pub lacks_item : List Record → VoucherLine → Bool
lacks_item journal line = is_unknown_item journal line.item

abbrev pub unknown_item : List Record → What → Option PostFault
unknown_item journal what = option_map UnknownItem (first_line (lacks_item journal) 1 (lines_of what))

-- no warehouse has the code
abbrev pub is_unknown_store : List Record → List ℕ → Bool
is_unknown_store journal code = is_none (store_with journal code)

-- the line names a warehouse that there is not
abbrev pub lacks_store : List Record → VoucherLine → Bool
lacks_store journal line = list_any (is_unknown_store journal) line.stores

abbrev pub unknown_store : List Record → What → Option PostFault
unknown_store journal what = option_map UnknownStore (first_line (lacks_store journal) 1 (lines_of what))

-- of two warehouses the second is the first
abbrev pub are_same_stores : List (List ℕ) → Bool
are_same_stores (from ∷ to ∷ []) = pointwise nat_eq from to
are_same_stores _ = false

-- the line's goods go from a warehouse to the same
abbrev pub stays : VoucherLine → Bool
stays line = are_same_stores line.stores

abbrev pub same_store : What → Option PostFault
same_store what = option_map SameStore (first_line stays 1 (lines_of what))

-- the target is no line of an accepted voucher of its kind that is in force
abbrev pub lacks_target : List Record → NamedTarget → Bool
lacks_target journal named = is_none (target_line journal named) || not (is_live journal named.target.voucher.0)

abbrev pub unknown_target : List Record → What → Option PostFault
unknown_target journal what = option_map UnknownTarget (first_line (lacks_target journal) 1 (targets_of what))

-- what is to be cancelled is no voucher in force
abbrev pub not_live : List Record → What → Option PostFault
not_live journal (Cancel target) = if is_voucher_in_force journal target.0 then None else Some (NotLive target)
not_live journal _ = None

abbrev pub linked_by : ℕ × Record → PostFault
linked_by (n, item) = Linked (record { 0 = n })

-- a voucher in force names a line of what is to be cancelled: the first one
abbrev pub linked : List Record → What → Option PostFault
linked journal (Cancel target) = option_map linked_by (first_link journal target.0)
linked journal _ = None

abbrev pub is_after : Moment → Moment → Bool
is_after at moment = is_later moment at

-- the target's voucher is of a later moment than this
abbrev pub comes_later : List Record → Moment → NamedTarget → Bool
comes_later journal at named = option_map_or (is_after at) (target_moment journal named.target) false

-- the number of the first target that is of a later moment than the voucher
abbrev pub first_later : List Record → What → Moment → Option ℕ
first_later journal what at = first_line (comes_later journal at) 1 (targets_of what)

abbrev pub link_later : List Record → What → Option PostFault
link_later journal what = option_map LinkLater (option_and_then (first_later journal what) (moment_of what))

-- the two name one line
abbrev pub name_one_line : NamedTarget → NamedTarget → Bool
name_one_line a b = is_same_target a.target b.target

-- the target is the same line as one of these
abbrev pub is_among : List NamedTarget → NamedTarget → Bool
is_among earlier named = list_any (name_one_line named) earlier

-- the number of the first that is the same line as one before it, the first of all being n after the earlier ones
abbrev pub first_repeated : List NamedTarget → ℕ → List NamedTarget → Option ℕ
first_repeated earlier n [] = None
first_repeated earlier n (named ∷ rest) = if is_among earlier named then Some n else first_repeated (earlier ++ named ∷ []) (n + 1) rest

abbrev pub repeated_target : What → Option PostFault
repeated_target what = option_map RepeatedTarget (first_repeated [] 1 (targets_of what))

-- how many units of a target are left to be returned: its units less those of all returns, whatever their moments
abbrev pub left_to_return : List Record → NamedTarget → ℕ
left_to_return journal named = option_map_or line_units (target_line journal named) 0 - returned (all_entries journal) named.target

-- how many units are left to what a line is of, where that is a target
abbrev pub left_of : List Record → Subject → Option ℕ
left_of journal (Coded code) = None
left_of journal (OfTarget named) = Some (left_to_return journal named)

abbrev pub is_less : ℕ → ℕ → Bool
is_less asked left = nat_lt left asked

-- the line asks to return more than is left
abbrev pub asks_more : List Record → VoucherLine → Bool
asks_more journal line = option_map_or (is_less line.qty.0) (left_of journal line.item) false

abbrev pub left_to_line : List Record → VoucherLine → ℕ
left_to_line journal line = option_map_or (λ left. left) (left_of journal line.item) 0

-- what the line with this number asks for, and what is left to it
abbrev pub over_return_at : List Record → List VoucherLine → ℕ → PostFault
over_return_at journal lines n =
    OverReturn n (record { 0 = option_map_or line_units (line_numbered lines n) 0 }) (record { 0 = option_map_or (left_to_line journal) (line_numbered lines n) 0 })

abbrev pub over_return : List Record → What → Option PostFault
over_return journal what = option_map (over_return_at journal (lines_of what)) (first_line (asks_more journal) 1 (lines_of what))

-- the line has what is tested
abbrev pub line_test : LineTest → List Record → VoucherLine → Bool
line_test LacksItem journal line = lacks_item journal line
line_test LacksStore journal line = lacks_store journal line
line_test Stays journal line = stays line
line_test AsksMore journal line = asks_more journal line

-- the target has what is tested
abbrev pub target_test : TargetTest → List Record → NamedTarget → Bool
target_test IsUnknown journal named = lacks_target journal named
target_test (ComesLater at) journal named = comes_later journal at named

-- a charge has no weight by which it could be parted
abbrev pub has_no_basis : List Record → What → Bool
has_no_basis journal (Landed charge basis targets) = sum (weights journal basis targets) == 0
has_no_basis journal _ = false

abbrev pub no_basis : List Record → What → Option PostFault
no_basis journal what = if has_no_basis journal what then Some NoBasis else None

-- the target's voucher is of a closed moment, where the past is closed up to this one
abbrev pub was_closed : List Record → Moment → Target → Bool
was_closed journal until target = option_map_or (is_closed until) (target_moment journal target) false

-- the voucher moves goods at a closed moment, or charges goods that were received at one
abbrev pub says_closed : List Record → Moment → What → Bool
says_closed journal until what = option_map_or (is_closed until) (moment_of what) false || list_any (was_closed journal until) (charged_targets what)

abbrev pub record_says_closed : List Record → Moment → Record → Bool
record_says_closed journal until item = says_closed journal until item.what

-- what is taken back moved goods at a closed moment, or charged goods that were received at one
abbrev pub cancels_closed : List Record → Moment → What → Bool
cancels_closed journal until (Cancel target) = option_map_or (record_says_closed journal until) (record_at journal target.0) false
cancels_closed journal until _ = false

abbrev pub changes_closed : List Record → What → Moment → Bool
changes_closed journal what until = says_closed journal until what || cancels_closed journal until what

abbrev pub frozen_by : List Record → What → Moment → Option PostFault
frozen_by journal what until = if changes_closed journal what until then Some (Frozen until) else None

-- the voucher changes what is closed
abbrev pub frozen_fault : List Record → What → Option PostFault
frozen_fault journal what = option_and_then (frozen_by journal what) (frozen journal)

-- the first fault of these
abbrev pub first_fault : List (Option PostFault) → Option PostFault
first_fault [] = None
first_fault (fault ∷ faults) = option_or fault (first_fault faults)

-- the faults of a new item or a new warehouse
abbrev pub master_fault : List Record → What → Option PostFault
master_fault journal what = first_fault (code_taken journal what ∷ code_shape what ∷ account_range what ∷ [])

-- the faults of the items and warehouses that lines name
abbrev pub lines_fault : List Record → What → Option PostFault
lines_fault journal what = first_fault (unknown_item journal what ∷ unknown_store journal what ∷ same_store what ∷ [])

-- the faults of the lines of earlier vouchers that the voucher names
abbrev pub targets_fault : List Record → What → Option PostFault
targets_fault journal what =
    first_fault (unknown_target journal what ∷ not_live journal what ∷ linked journal what ∷ link_later journal what ∷ repeated_target what ∷ over_return journal what ∷ no_basis journal what ∷ [])

-- the first fault of what the record says, whatever room there is
abbrev pub voucher_fault : List Record → What → Option PostFault
voucher_fault journal what = first_fault (master_fault journal what ∷ lines_fault journal what ∷ targets_fault journal what ∷ frozen_fault journal what ∷ [])

-- there is no room for the record or its movements
abbrev pub full : List Record → Record → Option PostFault
full journal item =
    if nat_le MAX_RECORDS (length journal) || nat_lt MAX_ENTRIES (length (all_entries journal) + length (entries journal item))
    then Some (Full (length journal) (length (all_entries journal)))
    else None

abbrev pub short_of : Shortage → PostFault
short_of s = Short s.place s.item s.store s.lacking

-- with the record's movements some movement takes more than there is: the first one in posting order
abbrev pub short : List Record → Record → Option PostFault
short journal item = option_map short_of (shortage (posting_line (journal ++ item ∷ [])))

-- the first fault of a record but a shortage, which the movements of all records decide
abbrev pub fault_but_short : List Record → Record → Option PostFault
fault_but_short journal item = option_or (voucher_fault journal item.what) (full journal item)

-- the first fault of a record that comes after the journal, or none
unfoldable pub fault : List Record → Record → Option PostFault
fault journal item = option_or (fault_but_short journal item) (short journal item)
