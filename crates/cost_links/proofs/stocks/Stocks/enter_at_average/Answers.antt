-- The row has room, and what is held is as after it.
use Rattle.std.proofs.Common.{◌++◌, ◌∷◌, [], List, sym, ap, ◌∙◌, subst}
use Rattle.stock_nums.specs.declared.entry.Row.{Row}
use Rattle.cost_links.specs.Stocks.{AreStocksOf}
use Rattle.cost_links.proofs.StockMoves.{average-fits, AreStocksOf-average_entered}
use Rattle.cost_links.proofs.stocks.Stocks.enter_at_average.Goals as goal

pub add-requires-clause-units_fit : goal.add-requires-clause-units_fit
add-requires-clause-units_fit c =
    let stocks = subst (λ (rows : List Row). AreStocksOf rows c.self.inside.averages c.self.inside.queues) c.self.view_is c.self.invariant in
    (average-fits c.args.self c.args.row c.entry_key.result c.self.inside.averages c.self.inside.queues stocks c.entry_key.ensures c.requires.enters c.requires.bounded c.requires.formula).0

pub add-requires-clause-value_fits : goal.add-requires-clause-value_fits
add-requires-clause-value_fits c =
    let stocks = subst (λ (rows : List Row). AreStocksOf rows c.self.inside.averages c.self.inside.queues) c.self.view_is c.self.invariant in
    (average-fits c.args.self c.args.row c.entry_key.result c.self.inside.averages c.self.inside.queues stocks c.entry_key.ensures c.requires.enters c.requires.bounded c.requires.formula).1

pub invariant_of-result : goal.invariant_of-result
invariant_of-result c =
    let stocks = subst (λ (rows : List Row). AreStocksOf rows c.self.inside.averages c.self.inside.queues) c.self.view_is c.self.invariant in
    let added = c.in_ok-push.ensures.added ∙ ap (λ (rows : List Row). rows ++ c.args.row ∷ []) c.self.view_is in
    subst (λ (rows : List Row). AreStocksOf rows c.add.new.self c.self.inside.queues) (sym added)
    (AreStocksOf-average_entered c.args.self c.args.row c.entry_key.result c.self.inside.averages c.add.new.self c.self.inside.queues stocks c.entry_key.ensures c.requires.average c.requires.enters c.requires.bounded c.in_ok-add.ensures.added)
