-- The next one's shortage is looked at before those of the rest.
use Rattle.std.proofs.Common.{◌∙◌, ap}
use Rattle.quantity_check.specs.Stretches.{shortage_after, shortage_by_gone, earlier}
use Rattle.quantity_check.proofs.StretchLemmas.{earliest-step}
use Rattle.quantity_check.proofs.stretches.shortage_by_gone.Goals as goal

pub loop-entry-preserved : goal.loop-entry-preserved
loop-entry-preserved c =
    let by = shortage_after c.args.line.now.entries c.args.adds.now c.args.gone.now in
    earliest-step by c.args.gone.now c.loop-entry.entry-index c.entry-item.result c.loop-entry.first c.earlier-first.result
    (shortage_by_gone c.args.line.now.entries c.args.adds.now c.args.gone.now) c.loop-entry-test.true c.entry-item.is
    (c.earlier-first.ensures ∙ ap (earlier c.loop-entry.first) c.shortage_after.ensures) c.loop-entry.invariant
