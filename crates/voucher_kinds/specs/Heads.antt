-- What a record makes, and a master with it and without it.
use Rattle.std.specs.Prelude.{ℕ, ◌-◌, ◌++◌, length, take, Option, None}
use Rattle.std.specs.Option.{option_to_list}
use Rattle.item_master.specs.declared.faults.MasterFault.{MasterFault}
use Rattle.item_master.specs.Faults.{item_fault, store_fault}
use Rattle.item_master.specs.State.{MasterState}
use Rattle.stock_model.specs.declared.vouchers.What.{What}
use Rattle.stock_model.specs.declared.vouchers.What.TheVariants.{Item, Store}
use Rattle.stock_model.specs.Masters.{item_made, store_made}
use Rattle.voucher_kinds.specs.declared.heads.Made.{Made}
use Rattle.voucher_kinds.specs.declared.heads.Made.TheVariants as made

-- which of an item, a warehouse and movements the record makes
abbrev pub made_by : What → Made
made_by (Item code method) = made.Item
made_by (Store code account) = made.Store
made_by _ = made.Movements

-- the master with the item or the warehouse that the record with this number makes, if it makes one
abbrev pub with_made : MasterState → ℕ → What → MasterState
with_made master n what =
    record {
      items = master.items ++ option_to_list (item_made n what);
      stores = master.stores ++ option_to_list (store_made n what);
    }

-- the master without the last item, or without the last warehouse
abbrev pub without_last : MasterState → Made → MasterState
without_last master made.Item = record { items = take (length master.items - 1) master.items; stores = master.stores }
without_last master made.Store = record { items = master.items; stores = take (length master.stores - 1) master.stores }
without_last master made.Movements = master

-- why the master refuses the item or the warehouse that the record makes
abbrev pub made_fault : MasterState → What → Option MasterFault
made_fault master (Item code method) = item_fault master.items code
made_fault master (Store code account) = store_fault master.stores code account.0
made_fault master _ = None
