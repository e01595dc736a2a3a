use Rattle.std.proofs.Common.{sym, ◌∙◌, arith}
use Rattle.stock_model.specs.Faults.{asks_more}
use Rattle.stock_model.specs.VoucherLines.{lines_of}
use Rattle.stock_model.proofs.Numbered.{first_line-from}
use Rattle.stock_model.proofs.refusals.over_return.Goals as goal

pub over_return_at-requires : goal.over_return_at-requires
over_return_at-requires g c =
    omega (
      arith,
      first_line-from (asks_more (g.N.Names.journal c.args.names.now)) 1 c.in-Some.line (lines_of c.args.what.now) (sym c.first_line.ensures ∙ c.in-Some.is),
    )
