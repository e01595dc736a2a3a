-- The row has room, and what is held is as after it.
use Rattle.std.proofs.Common.{◌++◌, ◌∷◌, [], List, sym, ap, ◌∙◌, subst}
use Rattle.stock_nums.specs.declared.entry.Row.{Row}
use Rattle.cost_links.specs.Stocks.{AreStocksOf}
use Rattle.cost_links.proofs.StockMoves.{layers-fit, AreStocksOf-layer_entered}
use Rattle.cost_links.proofs.stocks.Stocks.enter_last.Goals as goal

pub push-requires-clause-units_fit : goal.push-requires-clause-units_fit
push-requires-clause-units_fit c =
    let stocks = subst (λ (rows : List Row). AreStocksOf rows c.self.inside.averages c.self.inside.queues) c.self.view_is c.self.invariant in
    (layers-fit c.args.self c.args.row c.entry_key.result c.self.inside.averages c.self.inside.queues stocks c.entry_key.ensures c.requires.enters c.requires.bounded c.requires.formula).0

pub push-requires-clause-value_fits : goal.push-requires-clause-value_fits
push-requires-clause-value_fits c =
    let stocks = subst (λ (rows : List Row). AreStocksOf rows c.self.inside.averages c.self.inside.queues) c.self.view_is c.self.invariant in
    (layers-fit c.args.self c.args.row c.entry_key.result c.self.inside.averages c.self.inside.queues stocks c.entry_key.ensures c.requires.enters c.requires.bounded c.requires.formula).1

pub invariant_of-result : goal.invariant_of-result
invariant_of-result c =
    let stocks = subst (λ (rows : List Row). AreStocksOf rows c.self.inside.averages c.self.inside.queues) c.self.view_is c.self.invariant in
    let added = c.in_ok-push-2.ensures.added ∙ ap (λ (rows : List Row). rows ++ c.args.row ∷ []) c.self.view_is in
    subst (λ (rows : List Row). AreStocksOf rows c.self.inside.averages c.push.new.self) (sym added)
    (AreStocksOf-layer_entered c.args.self c.args.row c.entry_key.result c.self.inside.averages c.self.inside.queues c.push.new.self stocks c.entry_key.ensures c.requires.first_in c.requires.enters c.in_ok-push.ensures.added)
