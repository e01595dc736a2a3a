-- The layer that holds the unit has the units of a movement that left.
use Rattle.std.proofs.Common.{◌≤◌, ℕ, sym, subst}
use Rattle.stock_model.specs.Enough.{leaves_under}
use Rattle.repost_index.specs.IndexState.{IndexState}
use Rattle.repost_index.proofs.UnitNumbers.{AreOfThose, units_of_key-those, layer-out_told}
use Rattle.repost_index.proofs.index.Index.unit_out.Goals as goal

pub returns-clause-layer : goal.returns-clause-layer
returns-clause-layer g c =
    let key = c.args.key in
    let cs = c.self.inside.ranges.leaving in
    let are : AreOfThose (leaves_under key) g.line key cs = subst (λ (s : IndexState). AreOfThose (leaves_under key) g.line key s.leaving)
    (sym c.self.view_is) (c.requires.leaving key) in
    layer-out_told g.line key cs c.args.unit.0 c.unit_out.result c.requires.in_order are c.unit_out.ensures.layer c.unit_out.ensures.holds

pub returns-clause-none : goal.returns-clause-none
returns-clause-none g c =
    let key = c.args.key in
    let cs = c.self.inside.ranges.leaving in
    let are : AreOfThose (leaves_under key) g.line key cs = subst (λ (s : IndexState). AreOfThose (leaves_under key) g.line key s.leaving)
    (sym c.self.view_is) (c.requires.leaving key) in
    let all = units_of_key-those (leaves_under key) g.line key cs are in (
      λ none. subst (λ (n : ℕ). n ≤ c.args.unit.0) all (c.unit_out.ensures.none.0 none),
      λ past. c.unit_out.ensures.none.1 (subst (λ (n : ℕ). n ≤ c.args.unit.0) (sym all) past),
    )
