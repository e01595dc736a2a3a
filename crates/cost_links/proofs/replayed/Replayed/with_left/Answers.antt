-- The row that is added is the valued movement.
use Rattle.std.proofs.Common.{◌≡◌, ◌+◌, ◌<◌, ◌^◌, ◌++◌, ◌∷◌, [], List, cond, unsigned_abs, sym, ap, ◌∙◌, subst, arith}
use Rattle.stock_nums.specs.Targets.{is_same_target}
use Rattle.stock_nums.specs.declared.cause.Target.{Target}
use Rattle.stock_nums.specs.declared.entry.Row.{Row}
use Rattle.stock_model.specs.Values.{line_cost, returned_before}
use Rattle.cost_links.specs.Replayed.{AreSumsOf}
use Rattle.cost_links.specs.Rows.{costed}
use Rattle.stock_nums.specs.LineSums.{number_of}
use Rattle.cost_links.proofs.RowSums.{AreSumsOf-left, line_cost-fits, returned_before-fits, costed-valued}
use Rattle.cost_links.proofs.replayed.Replayed.with_left.Goals as goal

pub add_to-requires : goal.add_to-requires
add_to-requires c =
    let line = c.own_line.result in
    let told = c.self.invariant.left line ∙ ap (λ (rows : List Row). line_cost rows line) c.self.view_is in
    omega (arith, told, line_cost-fits c.args.charges.now.records.now c.args.self c.args.entry.now line c.requires.ready, c.amount.ensures.small)

pub add_return-requires : goal.add_return-requires
add_return-requires c = λ line.
    let told = c.self.invariant.back line ∙ ap (λ (rows : List Row). returned_before rows line) c.self.view_is in
    subst (λ n. n < 2 ^ 127) (sym told) (returned_before-fits c.args.charges.now.records.now c.args.self c.args.entry.now line c.requires.ready)

pub invariant_of-result : goal.invariant_of-result
invariant_of-result c =
    let row = costed c.self.inside.stocks c.args.entry.now c.share_by-share.result in
    let cost = c.amount.ensures.number ∙ ap unsigned_abs c.in_ok-stocks.ensures.cost in
    let more : (line : Target) → number_of c.add_to.new.sums line ≡ number_of c.self.inside.costs line + cond (is_same_target c.own_line.result line) (unsigned_abs row.worth.value.0) 0 =
    λ line. c.in_ok-add_to.ensures line ∙ ap (λ n. number_of c.self.inside.costs line + cond (is_same_target c.own_line.result line) n 0) cost in
    subst (λ (rows : List Row). AreSumsOf rows c.add_to.new.sums c.add_return.new.returned) (sym c.in_ok-stocks.ensures.rows)
    (AreSumsOf-left c.self.inside.stocks row c.own_line.result c.self.inside.costs c.add_to.new.sums c.self.inside.returned c.add_return.new.returned c.self.invariant c.requires.leaves c.own_line.ensures more c.in_ok-add_return.ensures)

pub returns : goal.returns
returns c =
    let journal = c.args.charges.now.records.now in
    let e = c.args.entry.now in
    c.in_ok-stocks.ensures.rows
    ∙ ap (λ (rows : List Row). rows ++ costed rows e c.share_by-share.result ∷ []) c.self.view_is
    ∙ ap (λ (r : Row). c.args.self ++ r ∷ []) (costed-valued journal c.args.self e c.share_by-share.result c.requires.leaves c.share_by-share.ensures)
