-- What is held is as after the row, whose value is its cost.
use Rattle.std.proofs.Common.{pos, ◌++◌, ◌∷◌, [], List, unsigned_abs, sym, ap, ◌∙◌, subst}
use Rattle.stock_nums.specs.declared.entry.Row.{Row}
use Rattle.cost_links.specs.Stocks.{AreStocksOf}
use Rattle.cost_links.proofs.StockMoves.{layers-cost, layers-held, AreStocksOf-layer_left, costed-is}
use Rattle.cost_links.proofs.stocks.Stocks.leave_first.Goals as goal

pub take-value-requires-clause-held : goal.take-value-requires-clause-held
take-value-requires-clause-held c =
    let stocks = subst (λ (rows : List Row). AreStocksOf rows c.self.inside.averages c.self.inside.queues) c.self.view_is c.self.invariant in
    layers-held c.args.self c.args.entry.now c.entry_key.result c.self.inside.averages c.self.inside.queues stocks c.entry_key.ensures c.requires.formula c.requires.held

pub invariant_of-stocks : goal.invariant_of-stocks
invariant_of-stocks c =
    let stocks = subst (λ (rows : List Row). AreStocksOf rows c.self.inside.averages c.self.inside.queues) c.self.view_is c.self.invariant in
    let row : Row = record { entry = c.args.entry.now; worth = record { value = c.take-value.result; share = c.args.share } } in
    let added = c.in_ok-push.ensures.added ∙ ap (λ (rows : List Row). rows ++ row ∷ []) c.self.view_is in
    subst (λ (rows : List Row). AreStocksOf rows c.self.inside.averages c.take-value.new.self) (sym added)
    (AreStocksOf-layer_left c.args.self row c.entry_key.result c.self.inside.averages c.self.inside.queues c.take-value.new.self stocks c.entry_key.ensures c.requires.first_in c.requires.leaves c.requires.held
    (ap unsigned_abs c.take-value.ensures.cost) c.take-value.ensures.left)

pub returns-clause-rows : goal.returns-clause-rows
returns-clause-rows c =
    let stocks = subst (λ (rows : List Row). AreStocksOf rows c.self.inside.averages c.self.inside.queues) c.self.view_is c.self.invariant in
    let cost = c.take-value.ensures.cost ∙ ap pos (layers-cost c.args.self c.args.entry.now c.entry_key.result c.self.inside.averages c.self.inside.queues stocks c.entry_key.ensures c.requires.first_in c.requires.formula) in
    let row : Row = record { entry = c.args.entry.now; worth = record { value = c.take-value.result; share = c.args.share } } in
    c.in_ok-push.ensures.added ∙ ap (λ (rows : List Row). rows ++ row ∷ []) c.self.view_is
    ∙ ap (λ (r : Row). c.args.self ++ r ∷ []) (costed-is c.args.self c.args.entry.now c.take-value.result c.args.share cost)

pub returns-clause-cost : goal.returns-clause-cost
returns-clause-cost c =
    let stocks = subst (λ (rows : List Row). AreStocksOf rows c.self.inside.averages c.self.inside.queues) c.self.view_is c.self.invariant in
    c.take-value.ensures.cost ∙ ap pos (layers-cost c.args.self c.args.entry.now c.entry_key.result c.self.inside.averages c.self.inside.queues stocks c.entry_key.ensures c.requires.first_in c.requires.formula)
