-- The units of the changes before the place are those of the movements that left before it.
use Rattle.std.proofs.Common.{ap, ◌∙◌, sym, subst}
use Rattle.stock_nums.specs.declared.entry.Key.{Key}
use Rattle.stock_model.specs.Enough.{entry_key, leaves_under}
use Rattle.layer_ranges.specs.Layers.{units_before}
use Rattle.repost_index.specs.IndexState.{IndexState}
use Rattle.repost_index.proofs.UnitNumbers.{AreOfThose, units_before-those}
use Rattle.repost_index.proofs.index.Index.left_before.Goals as goal

pub returns : goal.returns
returns g c =
    let e = c.args.entry.now in
    let key = entry_key e in
    let cs = c.self.inside.ranges.leaving in
    let are : AreOfThose (leaves_under key) g.line key cs = subst (λ (s : IndexState). AreOfThose (leaves_under key) g.line key s.leaving)
    (sym c.self.view_is) (c.requires.leaving key) in
    c.left_before.ensures ∙ ap (λ (k : Key). units_before cs k e.place) c.key_of.ensures
    ∙ units_before-those (leaves_under key) g.line key cs e.place are
