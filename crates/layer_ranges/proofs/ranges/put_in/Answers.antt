-- A change of units that leave goes among such changes.
use Rattle.std.proofs.Common.{ap, sym, ◌∙◌, subst}
use Rattle.key_order.specs.declared.change.Change.{Change}
use Rattle.key_order.specs.Changes.{leaving_change}
use Rattle.layer_ranges.specs.Layers.{AreLeaving}
use Rattle.key_order.specs.KeyOrders.{put_change}
use Rattle.layer_ranges.proofs.UnitsMoved.{AreLeaving-put_change, leaving_change-IsFewer}
use Rattle.layer_ranges.proofs.ranges.put_in.Goals as goal

pub returns-clause-leaving : goal.returns-clause-leaving
returns-clause-leaving c =
    let cs = c.args.units.now.changes in
    let entry = c.args.entry.now in
    subst AreLeaving (sym (c.insert.ensures.put ∙ ap (λ (change : Change). put_change cs change) c.leaving.ensures))
    (AreLeaving-put_change cs (leaving_change entry) c.requires.leaving c.requires.few (leaving_change-IsFewer entry)
    c.requires.apart)
