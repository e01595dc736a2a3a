-- The movements so far and those of the lines that are left are all movements.
use Rattle.std.proofs.Common.{◌≡◌, ◌+◌, ◌++◌, drop}
use Rattle.std.specs.List.{flat_map, enumerate_from}
use Rattle.stock_model.specs.Entries.{line_made, lines_made}
use Rattle.stock_model.specs.VoucherLines.{lines_of}
use Rattle.stock_model.proofs.movements.lines_made.Given as goal

abbrev pub invariant-loop-index : goal.invariant-loop-index
invariant-loop-index g l =
    l.entries ++ flat_map (line_made (g.N.Names.journal l.names) l.voucher.0 l.at l.what) (enumerate_from (l.index + 1) (drop l.index (lines_of l.what)))
    ≡ lines_made (g.N.Names.journal l.names) l.voucher.0 l.what l.at
