-- The numbers by which a line of an earlier voucher is named.
use Rattle.std.specs.Prelude.{Bool, ◌&&◌, ◌==◌, nat_le}
use Rattle.stock_nums.specs.declared.cause.Target.{Target}
use Rattle.stock_nums.specs.declared.limits.TheConstants.{MAX_LINES}

-- a line from 1 to 100 of a record from 1 to 2^32 - 1
abbrev pub is_target : Target → Bool
is_target target = nat_le 1 target.voucher.0 && (nat_le target.voucher.0 4_294_967_295 && (nat_le 1 target.line && nat_le target.line MAX_LINES))

-- the two are one line
abbrev pub is_same_target : Target → Target → Bool
is_same_target a b = (a.voucher.0 == b.voucher.0) && (a.line == b.line)
