-- The ranges of what a record says.
use Rattle.std.specs.Prelude.{ℕ, Bool, true, ◌&&◌, nat_le, length}
use Rattle.std.specs.List.{list_all}
use Rattle.stock_nums.specs.declared.limits.TheConstants.{MAX_LINES, MAX_SAID_ACCOUNT}
use Rattle.stock_nums.specs.Quantities.{is_line_amount}
use Rattle.stock_nums.specs.Targets.{is_target}
use Rattle.stock_model.specs.declared.vouchers.What.{What}
use Rattle.stock_model.specs.declared.vouchers.What.TheVariants.{Item, Store, Receipt, Issue, Transfer, CustomerReturn, SupplierReturn, Landed, Freeze, Cancel}

-- from 1 to 100
abbrev pub is_line_count : ℕ → Bool
is_line_count n = nat_le 1 n && nat_le n MAX_LINES

-- a voucher has 1 to 100 lines or targets, an account is at most 10^9, a charge is from 0 to 10^12, and what it is for
-- are lines from 1 to 100 of records from 1 on; what is cancelled is a record from 1 to 2^32 - 1
abbrev pub is_within_limits : What → Bool
is_within_limits (Item code method) = true
is_within_limits (Store code account) = nat_le account.0 MAX_SAID_ACCOUNT
is_within_limits (Receipt at lines) = is_line_count (length lines)
is_within_limits (Issue at purpose lines) = is_line_count (length lines)
is_within_limits (Transfer at lines) = is_line_count (length lines)
is_within_limits (CustomerReturn at lines) = is_line_count (length lines)
is_within_limits (SupplierReturn at lines) = is_line_count (length lines)
is_within_limits (Landed charge basis targets) = is_line_amount charge.0 && (is_line_count (length targets) && list_all is_target targets)
is_within_limits (Freeze until) = true
is_within_limits (Cancel target) = nat_le 1 target.0 && nat_le target.0 4_294_967_295
