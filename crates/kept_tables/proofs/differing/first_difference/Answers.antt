-- The worths of rows are in order.
use Rattle.std.proofs.Common.{sym, ◌∙◌, subst}
use Rattle.stock_keeper.specs.Worths.{AreInOrder}
use Rattle.kept_tables.proofs.RowWorths.{AreInOrder-worths_of}
use Rattle.kept_tables.proofs.differing.first_difference.Goals as goal

pub first_apart-requires-clause-replayed : goal.first_apart-requires-clause-replayed
first_apart-requires-clause-replayed c =
    subst AreInOrder (sym (c.as_slice.ensures.value ∙ c.in_ok-replayed.ensures)) (AreInOrder-worths_of c.args.rows.now)
