-- The lines so far were read of the list, and they are 100 at most.
use Rattle.std.proofs.Common.{◌-◌, ◌≤◌, length}
use Rattle.voucher_json.specs.Tables.{line_data}
use Rattle.voucher_json.proofs.UsualLines.{HasRead}
use Rattle.voucher_json.proofs.usual_lines.read_usual_lines.Given as goal

abbrev pub invariant-loop-alloc : goal.invariant-loop-alloc
invariant-loop-alloc g l = record { read : HasRead (line_data g.L.UsualLine.table) l.initial.reader l.lines l.reader; most : length l.lines ≤ 100 }

abbrev pub decreases-loop-alloc : goal.decreases-loop-alloc
decreases-loop-alloc g l = 100 - length l.lines
