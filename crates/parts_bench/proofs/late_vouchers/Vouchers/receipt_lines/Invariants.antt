-- There is a line for each that was counted.
use Rattle.std.proofs.Common.{◌≡◌, length}
use Rattle.parts_bench.proofs.late_vouchers.Vouchers.receipt_lines.Given as goal

abbrev pub invariant-loop : goal.invariant-loop
invariant-loop l = length l.lines ≡ l.counter
