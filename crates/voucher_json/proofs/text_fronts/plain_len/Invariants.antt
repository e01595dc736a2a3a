-- The bytes so far stand for themselves.
use Rattle.std.proofs.Common.{◌≡◌, ◌-◌, ◌≤◌, length, take}
use Rattle.json.specs.Print.{escape}
use Rattle.voucher_json.proofs.text_fronts.plain_len.Given as goal

abbrev pub invariant-loop-len : goal.invariant-loop-len
invariant-loop-len l = record { plain : escape (take l.len l.bytes) ≡ take l.len l.bytes; bound : l.len ≤ length l.bytes }

abbrev pub decreases-loop-len : goal.decreases-loop-len
decreases-loop-len l = length l.bytes - l.len
