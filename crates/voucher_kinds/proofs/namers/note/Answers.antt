-- A line of a record is named where some target is one.
use Rattle.std.proofs.Common.{arith}
use Rattle.stock_model.specs.VoucherLines.{targets_of}
use Rattle.voucher_kinds.proofs.Named.{named-at}
use Rattle.voucher_kinds.proofs.namers.note.Goals as goal

pub returns-clause-named : goal.returns-clause-named
returns-clause-named c n one held names =
    let found = named-at (targets_of c.args.what.now) n names in
    c.loop-index.invariant.2 n found.0 (omega (arith, found.1, c.target_count-index-end.ensures, c.loop-index-test.false)) one held found.2
