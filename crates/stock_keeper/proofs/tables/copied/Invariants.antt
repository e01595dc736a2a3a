use Rattle.std.proofs.Common.{◌≡◌, take}
use Rattle.stock_keeper.proofs.tables.copied.Given as goal

abbrev pub invariant-loop-record : goal.invariant-loop-record
invariant-loop-record l = l.copy ≡ take l.record-index l.records
