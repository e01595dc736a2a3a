-- The vouchers so far were imported, and their lines written.
use Rattle.std.proofs.Common.{◌≡◌, [], take}
use Rattle.stock_import.specs.Runs.{IsUnderWay}
use Rattle.stock_import.proofs.running.import_all.Given as goal

abbrev pub invariant-loop-voucher : goal.invariant-loop-voucher
invariant-loop-voucher g l =
    IsUnderWay g.O.Sink.written g.O.Sink.faults l.fn.output l.output l.fn.import.book l.import.book (take l.voucher-index l.vouchers)
    × (l.import.waiting.items ≡ [])
