-- The rest of the targets has the first one.
use Rattle.std.proofs.Common.{◌≡◌, ◌+◌, drop}
use Rattle.stock_model.specs.Faults.{first_line, target_test}
use Rattle.stock_model.specs.VoucherLines.{targets_of}
use Rattle.stock_model.proofs.target_faults.first_target.Given as goal

abbrev pub invariant-loop-index : goal.invariant-loop-index
invariant-loop-index g l =
    first_line (target_test l.test (g.N.Names.journal l.names)) (l.index + 1) (drop l.index (targets_of l.what))
    ≡ first_line (target_test l.test (g.N.Names.journal l.names)) 1 (targets_of l.what)
