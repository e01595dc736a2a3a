-- The rest of the lines has the first one.
use Rattle.std.proofs.Common.{◌≡◌, ◌+◌, drop}
use Rattle.stock_model.specs.Faults.{first_line, line_test}
use Rattle.stock_model.specs.VoucherLines.{lines_of}
use Rattle.stock_model.proofs.line_faults.first_line.Given as goal

abbrev pub invariant-loop-index : goal.invariant-loop-index
invariant-loop-index g l =
    first_line (line_test l.test (g.N.Names.journal l.names)) (l.index + 1) (drop l.index (lines_of l.what))
    ≡ first_line (line_test l.test (g.N.Names.journal l.names)) 1 (lines_of l.what)
