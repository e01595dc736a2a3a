-- The first comes before the last too.
use Rattle.std.proofs.Common.{[], ◌∷◌}
use Rattle.stock_model.proofs.Pairwise.{AllPairs-from_Pairwise}
use Rattle.stock_keeper.specs.Worths.{IsBefore}
use Rattle.stock_keeper.proofs.SpotOrder.{transitive}
use Rattle.book_tests.proofs.opened_tables.stored.Goals as goal

pub returns : goal.returns
returns c =
    let a = c.args.first in
    let b = c.args.second in
    let d = c.args.third in
    AllPairs-from_Pairwise IsBefore (a ∷ b ∷ d ∷ []) (
      (c.requires.first, (transitive a.spot b.spot d.spot c.requires.first c.requires.second, tt)),
      ((c.requires.second, tt), (tt, tt)),
    )
