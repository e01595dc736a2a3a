-- The row that is added is the valued movement.
use Rattle.std.proofs.Common.{◌<◌, ◌^◌, ◌++◌, ◌∷◌, [], List, sym, ap, ◌∙◌, subst}
use Rattle.stock_nums.specs.declared.entry.Row.{Row}
use Rattle.stock_model.specs.Values.{returned_before}
use Rattle.cost_links.specs.Replayed.{AreSumsOf}
use Rattle.cost_links.proofs.RowSums.{AreSumsOf-entered, returned_before-fits, enters_by-is, valued-is}
use Rattle.cost_links.proofs.replayed.Replayed.with_entered.Goals as goal

pub add_return-requires : goal.add_return-requires
add_return-requires c = λ line.
    let told = c.self.invariant.back line ∙ ap (λ (rows : List Row). returned_before rows line) c.self.view_is in
    subst (λ n. n < 2 ^ 127) (sym told) (returned_before-fits c.args.charges.now.records.now c.args.self c.args.entry.now line c.requires.ready)

pub invariant_of-result : goal.invariant_of-result
invariant_of-result c =
    let row : Row = record { entry = c.args.entry.now; worth = record { value = c.value_by-value.result; share = c.share_by-share.result } } in
    subst (λ (rows : List Row). AreSumsOf rows c.self.inside.costs c.add_return.new.returned) (sym c.in_ok-stocks.ensures)
    (AreSumsOf-entered c.self.inside.stocks row c.self.inside.costs c.self.inside.returned c.add_return.new.returned c.self.invariant c.requires.enters c.in_ok-add_return.ensures)

pub returns : goal.returns
returns c =
    let journal = c.args.charges.now.records.now in
    let e = c.args.entry.now in
    let row : Row = record { entry = e; worth = record { value = c.value_by-value.result; share = c.share_by-share.result } } in
    c.in_ok-stocks.ensures
    ∙ ap (λ (rows : List Row). rows ++ row ∷ []) c.self.view_is
    ∙ ap (λ (r : Row). c.args.self ++ r ∷ []) (valued-is journal c.args.self e c.value_by-value.result c.share_by-share.result (c.value_by-value.ensures (enters_by-is e c.requires.enters)) c.share_by-share.ensures)
