-- The bytes so far are digits, and the number is what they spell.
use Rattle.std.proofs.Common.{◌≡◌, ◌-◌, ◌≤◌, length, take, true}
use Rattle.std.specs.Char.{is_ascii_digit}
use Rattle.std.specs.List.{list_all}
use Rattle.std.specs.Str.Parse.{digits_value}
use Rattle.voucher_json.proofs.text_fronts.leading_digits.Given as goal

abbrev pub invariant-loop-len : goal.invariant-loop-len
invariant-loop-len l = record { digits : list_all is_ascii_digit (take l.len l.bytes) ≡ true; number : l.number ≡ digits_value 10 (take l.len l.bytes); bound : l.len ≤ length l.bytes }

abbrev pub decreases-loop-len : goal.decreases-loop-len
decreases-loop-len l = length l.bytes - l.len
