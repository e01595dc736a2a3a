-- There is a line for each that was counted.
use Rattle.std.proofs.Common.{◌≡◌, length}
use Rattle.parts_bench.proofs.late_vouchers.Vouchers.issue_lines.Given as goal

abbrev pub invariant-loop-index : goal.invariant-loop-index
invariant-loop-index l = length l.lines ≡ l.index
