-- The lines copied and those left are all lines.
use Rattle.std.proofs.Common.{◌≡◌, ◌++◌, drop}
use Rattle.stock_model.proofs.vouchers.copy_lines.Given as goal

abbrev pub invariant-loop-line : goal.invariant-loop-line
invariant-loop-line g l = l.copy ++ drop l.line-index l.lines ≡ l.lines
