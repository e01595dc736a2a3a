-- The movement's units are held, and cost what they cost over the sums.
use Rattle.std.proofs.Common.{pos, List, sym, ap, ◌∙◌, subst}
use Rattle.stock_nums.specs.declared.entry.Row.{Row}
use Rattle.stock_model.specs.Enough.{entry_key}
use Rattle.cost_links.proofs.RowSums.{value_by-leaving}
use Rattle.generation_audit.specs.KeySums.{Sums, cost_of, HasCost, moved_of}
use Rattle.generation_audit.proofs.RowSteps.{cost-is, has-cost}
use Rattle.generation_audit.proofs.rows_before.RowsBefore.value_leaving.Goals as goal

pub cost-requires : goal.cost-requires
cost-requires c =
    let e = c.args.entry.now in
    let key = entry_key e in
    let told = c.self.invariant.1 key ∙ ap (λ (rows : List Row). moved_of rows key) c.self.view_is in
    subst (λ (m : Sums). HasCost e.method m e.qty.0) (sym told)
    (has-cost c.args.charges.now.records.now c.args.self.now e c.requires.ready c.requires.leaves)

pub returns : goal.returns
returns c =
    let e = c.args.entry.now in
    let key = entry_key e in
    let told = c.self.invariant.1 key ∙ ap (λ (rows : List Row). moved_of rows key) c.self.view_is in
    c.cost.ensures
    ∙ ap (λ (m : Sums). pos (cost_of e.method m e.qty.0)) told
    ∙ ap pos (cost-is e.method c.args.self.now e)
    ∙ sym (value_by-leaving c.args.charges.now.records.now c.args.self.now e e.cause e.sides c.requires.leaves)
