-- The next movement does not stand at the place either.
use Rattle.std.proofs.Common.{sym, ◌∙◌}
use Rattle.parts_bench.proofs.OwnPlaces.{entry_at-step}
use Rattle.parts_bench.proofs.posting.is_free_of.Goals as goal

pub loop-entry-preserved : goal.loop-entry-preserved
loop-entry-preserved c =
    entry_at-step c.args.entries.now c.args.place.now c.loop-entry.entry-index c.entry-item.result c.loop-entry-test.true c.entry-item.is
    (sym c.is_at.ensures ∙ c.if-is_at.false) c.loop-entry.invariant
