-- One more row is the next movement's, until all are.
use Rattle.std.proofs.Common.{◌≡◌, sym, ◌∙◌, arith}
use Rattle.repost_build.specs.Rows.{slot_row}
use Rattle.repost_build.proofs.BlockRows.{same-next}
use Rattle.repost_build.proofs.slot_rows.is_run.Goals as goal

pub loop-index-preserved : goal.loop-index-preserved
loop-index-preserved c =
    let i = c.loop-index.index in
    let same : c.index-rows-index.result ≡ slot_row c.index-slots-index.result =
    sym (c.is_same.ensures.0 c.if-not-is_same.false) ∙ c.row_of.ensures in
    same-next c.args.slots.now c.args.rows.now i c.index-slots-index.result c.index-rows-index.result (omega (arith, c.requires, c.loop-index-test.true))
    c.loop-index-test.true c.index-slots-index.is c.index-rows-index.is same c.loop-index.invariant
