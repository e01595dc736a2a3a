-- The layer that holds the unit has the units of a movement that entered.
use Rattle.std.proofs.Common.{◌≤◌, ℕ, sym, subst}
use Rattle.stock_model.specs.Enough.{enters_under}
use Rattle.repost_index.specs.IndexState.{IndexState}
use Rattle.repost_index.proofs.UnitNumbers.{AreOfThose, units_of_key-those, layer-in_told}
use Rattle.repost_index.proofs.index.Index.unit_in.Goals as goal

pub returns-clause-layer : goal.returns-clause-layer
returns-clause-layer g c =
    let key = c.args.key in
    let cs = c.self.inside.ranges.entering in
    let are : AreOfThose (enters_under key) g.line key cs = subst (λ (s : IndexState). AreOfThose (enters_under key) g.line key s.entering)
    (sym c.self.view_is) (c.requires.entering key) in
    layer-in_told g.line key cs c.args.unit.0 c.unit_in.result c.requires.in_order are c.unit_in.ensures.layer c.unit_in.ensures.holds

pub returns-clause-none : goal.returns-clause-none
returns-clause-none g c =
    let key = c.args.key in
    let cs = c.self.inside.ranges.entering in
    let are : AreOfThose (enters_under key) g.line key cs = subst (λ (s : IndexState). AreOfThose (enters_under key) g.line key s.entering)
    (sym c.self.view_is) (c.requires.entering key) in
    let all = units_of_key-those (enters_under key) g.line key cs are in (
      λ none. subst (λ (n : ℕ). n ≤ c.args.unit.0) all (c.unit_in.ensures.none.0 none),
      λ past. c.unit_in.ensures.none.1 (subst (λ (n : ℕ). n ≤ c.args.unit.0) (sym all) past),
    )
