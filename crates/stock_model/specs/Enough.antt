-- Whether a warehouse always had what left it, and the first movement that takes more than there is.
use Rattle.std.specs.Prelude.{ℕ, ◌-◌, ◌≤◌, Bool, ◌&&◌, ◌==◌, not, List, [], ◌∷◌, ◌++◌, take, filter, sum_by, nat_lt, if◌then◌else◌, Option, Some, None}
use Rattle.stock_nums.specs.declared.entry.Entry.{Entry}
use Rattle.stock_nums.specs.declared.entry.Key.{Key}
use Rattle.stock_model.specs.declared.shortages.Shortage.{Shortage}
use Rattle.stock_nums.specs.Causes.{is_entering}

-- the item and the warehouse of a movement
abbrev pub entry_key : Entry → Key
entry_key e = record { item = e.item; store = e.store }

-- the two keys are of one item and one warehouse
abbrev pub is_same_key : Key → Key → Bool
is_same_key a b = (a.item.0 == b.item.0) && (a.store.0 == b.store.0)

-- the movement is of this item in this warehouse
abbrev pub is_of_key : Key → Entry → Bool
is_of_key key e = is_same_key (entry_key e) key

-- the movement enters, and is of this item in this warehouse
abbrev pub enters_under : Key → Entry → Bool
enters_under key e = is_of_key key e && is_entering e.place.side

-- the movement leaves, and is of this item in this warehouse
abbrev pub leaves_under : Key → Entry → Bool
leaves_under key e = is_of_key key e && not (is_entering e.place.side)

abbrev pub entry_units : Entry → ℕ
entry_units e = e.qty.0

-- how many units of the item entered the warehouse
abbrev pub entered : List Entry → Key → ℕ
entered es key = sum_by entry_units (filter (enters_under key) es)

-- how many units of the item left the warehouse
abbrev pub departed : List Entry → Key → ℕ
departed es key = sum_by entry_units (filter (leaves_under key) es)

-- at every prefix, and for each item and warehouse, what left is at most what entered
abbrev pub IsEnough : List Entry → Type 0
IsEnough es = (n : ℕ) (key : Key) → departed (take n es) key ≤ entered (take n es) key

-- with this movement more left than entered, of its item in its warehouse
abbrev pub is_short : List Entry → Entry → Bool
is_short past e = nat_lt (entered (past ++ e ∷ []) (entry_key e)) (departed (past ++ e ∷ []) (entry_key e))

-- where this movement stands, and how many units too many have left with it
abbrev pub shortage_at : List Entry → Entry → Shortage
shortage_at past e =
    record {
      place = e.place;
      item = e.item;
      store = e.store;
      lacking = record { 0 = departed (past ++ e ∷ []) (entry_key e) - entered (past ++ e ∷ []) (entry_key e) };
    }

-- the first shortage of the movements that come after the past ones
abbrev pub shortage_from : List Entry → List Entry → Option Shortage
shortage_from past [] = None
shortage_from past (e ∷ es) = if is_short past e then Some (shortage_at past e) else shortage_from (past ++ e ∷ []) es

-- the first shortage of the movements in their order, or none
unfoldable pub shortage : List Entry → Option Shortage
shortage es = shortage_from [] es
