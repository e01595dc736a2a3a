-- The units of the changes before the place are those of the movements that entered before it.
use Rattle.std.proofs.Common.{ap, ◌∙◌, sym, subst}
use Rattle.stock_nums.specs.declared.entry.Key.{Key}
use Rattle.stock_model.specs.Enough.{entry_key, enters_under}
use Rattle.layer_ranges.specs.Layers.{units_before}
use Rattle.repost_index.specs.IndexState.{IndexState}
use Rattle.repost_index.proofs.UnitNumbers.{AreOfThose, units_before-those}
use Rattle.repost_index.proofs.index.Index.entered_before.Goals as goal

pub returns : goal.returns
returns g c =
    let e = c.args.entry.now in
    let key = entry_key e in
    let cs = c.self.inside.ranges.entering in
    let are : AreOfThose (enters_under key) g.line key cs = subst (λ (s : IndexState). AreOfThose (enters_under key) g.line key s.entering)
    (sym c.self.view_is) (c.requires.entering key) in
    c.entered_before.ensures ∙ ap (λ (k : Key). units_before cs k e.place) c.key_of.ensures
    ∙ units_before-those (enters_under key) g.line key cs e.place are
