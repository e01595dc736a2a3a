-- The ledger accounts of warehouses.
use Rattle.std.specs.Prelude.{ℕ, Bool, ◌&&◌, nat_le}
use Rattle.stock_nums.specs.declared.limits.TheConstants.{LEAST_ACCOUNT, GREATEST_ACCOUNT}

-- a warehouse may have this account: from 100 to 9999
abbrev pub is_store_account : ℕ → Bool
is_store_account account = nat_le LEAST_ACCOUNT account && nat_le account GREATEST_ACCOUNT
