-- What is held is as after the row, whose value is its cost.
use Rattle.std.proofs.Common.{◌++◌, ◌∷◌, [], List, unsigned_abs, sym, ap, ◌∙◌, subst}
use Rattle.stock_nums.specs.declared.entry.Row.{Row}
use Rattle.cost_links.specs.Stocks.{AreStocksOf}
use Rattle.cost_links.proofs.StockMoves.{AreStocksOf-average_left}
use Rattle.cost_links.proofs.stocks.Stocks.leave_at_average.Goals as goal

pub invariant_of-stocks : goal.invariant_of-stocks
invariant_of-stocks c =
    let stocks = subst (λ (rows : List Row). AreStocksOf rows c.self.inside.averages c.self.inside.queues) c.self.view_is c.self.invariant in
    let row : Row = record { entry = c.args.entry.now; worth = record { value = c.in_ok-value.value; share = c.args.share } } in
    let added = c.in_ok-push.ensures.added ∙ ap (λ (rows : List Row). rows ++ row ∷ []) c.self.view_is in
    subst (λ (rows : List Row). AreStocksOf rows c.take.new.self c.self.inside.queues) (sym added)
    (AreStocksOf-average_left c.args.self row c.entry_key.result c.self.inside.averages c.take.new.self c.self.inside.queues stocks c.entry_key.ensures c.requires.average c.requires.leaves c.requires.held
    (ap unsigned_abs c.in_ok-value.ensures.cost) c.in_ok-value.ensures.left)
