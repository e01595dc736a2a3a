-- No line has more units than a voucher's line can have.
use Rattle.std.proofs.Common.{arith}
use Rattle.voucher_kinds.proofs.Kept.{returned-fits}
use Rattle.voucher_kinds.proofs.journal.JournalReturns.returned.Goals as goal

pub overflow_cast-result : goal.overflow_cast-result
overflow_cast-result c =
    omega (arith, c.of.ensures, returned-fits c.self.inside.records.items c.self.inside.master c.self.inside.returned_units c.self.inside.takers.items c.self.inside.frozen c.args.target c.self.invariant.0)
