-- The copies so far, and the records that are left, are those before and all that come.
use Rattle.std.proofs.Common.{◌≡◌, ◌++◌, drop}
use Rattle.report_mirror.proofs.record_blocks.push_copies.Given as goal

abbrev pub invariant-loop-record : goal.invariant-loop-record
invariant-loop-record l = l.records ++ drop l.record-index l.more ≡ l.initial.records ++ l.more
