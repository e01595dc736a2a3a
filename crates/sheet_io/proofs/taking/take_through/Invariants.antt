-- What was taken so far. Each read takes some of what may still be taken.
use Rattle.std.proofs.Common.{◌-◌, ◌<◌, ◌≤◌, length}
use Rattle.sheet_io.specs.Taking.{IsUnderWay}
use Rattle.sheet_io.specs.declared.taking.TheConstants.{MAX_SHEET}
use Rattle.sheet_io.proofs.taking.take_through.Given as goal

abbrev pub invariant-loop-bytes : goal.invariant-loop-bytes
invariant-loop-bytes g l =
    IsUnderWay g.S.Source.left g.S.Source.taken g.S.Source.faults l.fn.input l.input l.bytes.items × (length l.bytes.items ≤ MAX_SHEET)
    × (0 < length l.buffer)

abbrev pub decreases-loop-bytes : goal.decreases-loop-bytes
decreases-loop-bytes g l = MAX_SHEET - length l.bytes.items
