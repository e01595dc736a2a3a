-- Why a new item or a new warehouse is refused: its first fault.
use Rattle.std.specs.Prelude.{ℕ, List, Option, Some, None, is_some, if◌then◌else◌}
use Rattle.stock_nums.specs.Accounts.{is_store_account}
use Rattle.stock_nums.specs.Codes.{is_code}
use Rattle.item_master.specs.declared.faults.MasterFault.{MasterFault}
use Rattle.item_master.specs.declared.faults.MasterFault.TheVariants.{CodeTaken, CodeShape, AccountRange}
use Rattle.stock_nums.specs.Heads.{ItemHead, StoreHead, item_in, store_in}

-- the code is not of the stated shape
abbrev pub code_shape : List ℕ → Option MasterFault
code_shape code = if is_code code then None else Some CodeShape

-- the code is not of the stated shape, or else the account is not from 100 to 9999
abbrev pub code_shape_or_account_range : List ℕ → ℕ → Option MasterFault
code_shape_or_account_range code account =
    if is_code code then (if is_store_account account then None else Some AccountRange) else Some CodeShape

-- an item has the code, or else the code's own fault
abbrev pub item_fault : List ItemHead → List ℕ → Option MasterFault
item_fault items code = if is_some (item_in items code) then Some CodeTaken else code_shape code

-- a warehouse has the code, or else the fault of the code or of the account
abbrev pub store_fault : List StoreHead → List ℕ → ℕ → Option MasterFault
store_fault stores code account = if is_some (store_in stores code) then Some CodeTaken else code_shape_or_account_range code account
