-- The rows of a generation are the replay of its records.
use Rattle.std.proofs.Common.{List, sym, subst}
use Rattle.stock_nums.specs.declared.head.Head.{Head}
use Rattle.stock_model.specs.Reports.{IsSelected}
use Rattle.report_mirror.proofs.Selecting.{of-book}
use Rattle.report_mirror.proofs.generation.Generation.select.Goals as goal

pub returns-clause-of_book : goal.returns-clause-of_book
returns-clause-of_book c =
    let inside = c.self.inside in
    subst (λ (masters : List Head). IsSelected c.args.query.now (record { covered = inside.covered; rows = c.in_ok-rows_until.field-0; heads = masters }))
    (sym c.in_ok-share.ensures)
    (of-book inside.covered inside.records inside.rows c.in_ok-rows_until.field-0 inside.heads c.args.query.now c.self.invariant c.in_ok-rows_until.ensures)
