-- The past is closed so far by the records so far.
use Rattle.std.proofs.Common.{◌≡◌, take}
use Rattle.stock_model.specs.Freezing.{frozen}
use Rattle.stock_model.proofs.freezing.frozen.Given as goal

abbrev pub invariant-loop-record : goal.invariant-loop-record
invariant-loop-record l = l.until ≡ frozen (take l.record-index l.records)
