-- The records so far, and those that are to come, are all that were to come.
use Rattle.std.proofs.Common.{◌≡◌, ◌++◌, take}
use Rattle.report_mirror.proofs.record_walk.RecordWalk.behind.Given as goal

abbrev pub invariant-loop-record : goal.invariant-loop-record
invariant-loop-record l = take l.record-index l.records ++ l.walk ≡ l.initial.walk
