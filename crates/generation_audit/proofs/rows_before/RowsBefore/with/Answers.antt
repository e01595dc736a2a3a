-- The sums have room for the row, and are those with it.
use Rattle.std.proofs.Common.{◌<◌, ◌^◌, ◌∷◌, ◌++◌, [], List, sym, ap, ◌∙◌, subst}
use Rattle.stock_nums.specs.declared.entry.Row.{Row}
use Rattle.stock_model.specs.Enough.{entry_key}
use Rattle.stock_model.specs.Values.{line_cost, returned_before}
use Rattle.cost_links.specs.Replayed.{AreSumsOf}
use Rattle.generation_audit.specs.KeySums.{Sums, HasRoom, moved_of}
use Rattle.generation_audit.specs.MovedSums.{moved_at, AreMovedOf}
use Rattle.generation_audit.proofs.RowSteps.{room-for, costs-room, returns-room, sums-next, moved-next}
use Rattle.generation_audit.proofs.rows_before.RowsBefore.with.Goals as goal

pub add-requires : goal.add-requires
add-requires c =
    let row = c.args.row in
    let key = entry_key row.entry in
    let told = c.self.invariant.1 key ∙ ap (λ (rows : List Row). moved_of rows key) c.self.view_is in
    subst (λ (m : Sums). HasRoom m row) (sym told) (room-for c.args.self row key c.requires)

pub add_cost-requires : goal.add_cost-requires
add_cost-requires c = λ line.
    let told = c.self.invariant.0.left line ∙ ap (λ (rows : List Row). line_cost rows line) c.self.view_is in
    subst (λ n. n < 2 ^ 127) (sym told) (costs-room c.args.self c.args.row line c.requires)

pub add_return-requires : goal.add_return-requires
add_return-requires c = λ line.
    let told = c.self.invariant.0.back line ∙ ap (λ (rows : List Row). returned_before rows line) c.self.view_is in
    subst (λ n. n < 2 ^ 127) (sym told) (returns-room c.args.self c.args.row line c.requires)

pub invariant_of-result : goal.invariant_of-result
invariant_of-result c =
    let row = c.args.row in
    let old = c.self.inside.rows in
    let sums : AreSumsOf (old ++ row ∷ []) c.add_cost.new.costs c.add_return.new.returned =
    sums-next old row c.self.inside.costs c.add_cost.new.costs c.self.inside.returned c.add_return.new.returned c.self.invariant.0
    c.in_ok-add_cost.ensures c.in_ok-add_return.ensures in
    let moved : AreMovedOf (old ++ row ∷ []) c.add.new.self =
    λ key. moved-next old row key (moved_at c.self.inside.moved) (moved_at c.add.new.self key) c.self.invariant.1 (c.in_ok-add.ensures key) in
    subst (λ (rows : List Row). AreSumsOf rows c.add_cost.new.costs c.add_return.new.returned × AreMovedOf rows c.add.new.self)
    (sym c.in_ok-push.ensures.added) (sums, moved)
